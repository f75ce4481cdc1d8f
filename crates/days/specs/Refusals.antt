-- The refusals: the number, the layer and the place that each one answers.
-- Assumes nothing.
use Rattle.std.specs.Prelude.{ℕ}
use Rattle.days.specs.declared.refusal.Layer.{Layer}
use Rattle.days.specs.declared.refusal.Layer.TheVariants.{Text, Calendar, Deal, Register}
use Rattle.days.specs.declared.refusal.Refusal.{Refusal}
use Rattle.days.specs.declared.refusal.Refusal.TheVariants.{TextTooLong, LineNotEnded, BadMark, BadField, NoSuchDay, ClosesWholeWeek, OffsetOutOfRange, TooMany, BadTerm, BadMonths, TableTooShort, NoDayToRollTo, NeighboursOnOneDay, NotEmpty, BadDates, RateTooHigh, BadHolderCount, BadNominal, RegisterEmpty, RegisterClosed, DayOutOfPeriod, UnknownHolder, SameHolder, BadAmount, NoSuchDeal, BufferFull}

pub record Told : Type 0 where
  pub number : ℕ
  pub layer : Layer
  pub place : ℕ

abbrev pub answer : ℕ → Layer → ℕ → Told
answer n l p = record { number = n; layer = l; place = p }

abbrev pub told : Refusal → Told
told TextTooLong = answer 1 Text 0
told LineNotEnded = answer 2 Text 0
told BadMark = answer 3 Text 0
told BadField = answer 4 Text 0
told NoSuchDay = answer 5 Text 0
told ClosesWholeWeek = answer 6 Text 0
told OffsetOutOfRange = answer 7 Text 0
told TooMany = answer 8 Text 0
told BadTerm = answer 9 Deal 0
told BadMonths = answer 10 Deal 0
told TableTooShort = answer 11 Deal 0
told (NoDayToRollTo index) = answer 12 Calendar index
told (NeighboursOnOneDay index) = answer 13 Deal index
told NotEmpty = answer 14 Register 0
told BadDates = answer 15 Register 0
told RateTooHigh = answer 16 Register 0
told BadHolderCount = answer 17 Register 0
told BadNominal = answer 18 Register 0
told RegisterEmpty = answer 19 Register 0
told RegisterClosed = answer 20 Register 0
told DayOutOfPeriod = answer 21 Register 0
told UnknownHolder = answer 22 Register 0
told SameHolder = answer 23 Register 0
told BadAmount = answer 24 Register 0
told NoSuchDeal = answer 25 Text 0
told BufferFull = answer 26 Text 0
