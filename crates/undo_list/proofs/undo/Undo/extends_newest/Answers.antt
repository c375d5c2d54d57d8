use Rattle.std.proofs.Common.{◌≡◌, ℕ, Bool, true, false, List, ap, sym, ◌∙◌}
use Rattle.std.specs.Prelude.{if◌then◌else◌}
use Rattle.std.proofs.lemmas.Bool.{false≢true}
use Rattle.text_model.specs.Undo.{Rec, Inserted, Entry, extends, fits, in_front}
use Rattle.undo_list.specs.Records.{AreFalling}
use Rattle.undo_list.proofs.Merging.{extended-falling, extended-fits}
use Rattle.undo_list.proofs.undo.Undo.extends_newest.Goals as goal

-- whether or not the newest record was extended
kept : (b : Bool) (r : Rec) (n : ℕ) (es new : List Entry) → b ≡ extends r es → new ≡ (if b then in_front r n es else es) → AreFalling n es × (fits es ≡ true) → AreFalling n new × (fits new ≡ true)
kept true r n es new e h inv = rw h (extended-falling n r n es (sym e) inv.0, extended-fits r n es (sym e) inv.1)
kept false r n es new e h inv = rw h inv

pub invariant_of-self : goal.invariant_of-self
invariant_of-self c =
    let s = c.self.inside in
    let same = kept c.extend.result (Inserted c.in-Inserted.from c.in-Inserted.to) s.next s.records.entries c.extend.new.self.entries c.extend.ensures.extends (c.extend.ensures.entries s.next) (c.self.invariant.0, c.self.invariant.1) in
    (same.0, same.1, λ h. absurd (false≢true (sym h ∙ ap (λ r. r.state.on) c.self.view_is ∙ c.requires)))
