use Rattle.std.proofs.Common.{◌≡◌, ◌++◌, take}
use Rattle.writing.proofs.draft.Draft.word.Given as goal

abbrev pub invariant-loop-byte : goal.invariant-loop-byte
invariant-loop-byte l = l.self ≡ take 128 (l.initial.self ++ take l.byte-index l.bytes)
