use Rattle.std.proofs.Common.{◌≡◌, ◌^◌, ◌<◌, drop}
use Rattle.text.specs.Words.{digits_from}
use Rattle.text.proofs.words.digits_value.Given as goal

abbrev pub invariant-loop-byte : goal.invariant-loop-byte
invariant-loop-byte l =
    (digits_from l.radix l.value (drop l.byte-index l.digits) ≡ digits_from l.radix 0 l.digits) × (l.value < l.radix ^ l.byte-index)
