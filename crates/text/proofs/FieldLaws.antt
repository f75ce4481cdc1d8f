-- Every kind of field is read as it is spelled.
-- Assumes nothing.
use Rattle.text.specs.Kinds.{Kind, date, number, pattern, offset, stub, convention, basis}
use Rattle.text.specs.KindLaws.{KindLaw}
use Rattle.text.proofs.DateField.{date_law}
use Rattle.text.proofs.LetterFields.{stub_law, convention_law, basis_law}
use Rattle.text.proofs.NumberField.{number_law}
use Rattle.text.proofs.OffsetField.{offset_law}
use Rattle.text.proofs.PatternField.{pattern_law}

pub kind_law : (kind : Kind) → KindLaw kind
kind_law date = date_law
kind_law number = number_law
kind_law pattern = pattern_law
kind_law offset = offset_law
kind_law stub = stub_law
kind_law convention = convention_law
kind_law basis = basis_law
