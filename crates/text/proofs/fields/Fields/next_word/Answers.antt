use Rattle.std.proofs.Common.{refl}
use Rattle.text.proofs.WordCuts.{words_last, words_cut}
use Rattle.text.proofs.fields.Fields.next_word.Goals as goal
use Rattle.text.proofs.fields.Fields.next_word.Goals.{in-Some-split_once, in-None}

pub returns-clause-taken : goal.returns-clause-taken
returns-clause-taken c =
    let column = c.args.self.now.place.column in
    let rest = c.in-Some.rest.now in
    elim c.match-split_once.branch [
      | in-Some-split_once w ↦
          let at = w.in-Some-split_once in
          rw (c.holds.ensures, c.further-self.ensures, w.width-is, c.in-Some.is) (words_cut column rest at.word.now at.later.now at.ensures, refl)
      | in-None w ↦ rw (c.holds.ensures, w.width-is, c.in-Some.is) (words_last column rest w.in-None.ensures, refl)
    ]
