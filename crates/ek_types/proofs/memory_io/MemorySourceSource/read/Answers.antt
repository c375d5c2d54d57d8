use Rattle.std.proofs.Common.{rules, ◌≡◌, ◌+◌, length, drop, take, ℕ, true, false, List, ◌++◌, slice_range, arith, sym, ap, subst, ◌∙◌}
use Rattle.std.proofs.lemmas.List.Folds.{drop_split}
use Rattle.std.proofs.Math.Seq.{take-append_seam}
use Rattle.std.proofs.lemmas.Grind.{common_steps}
use Rattle.ek_types.proofs.Failing.{none_fails_now, none_fails_later}
use Rattle.ek_types.specs.MemoryIo.{MemorySourceState, fails_at, fails_no_more}
use Rattle.ek_types.proofs.memory_io.MemorySourceSource.read.Goals as goal

read_moves : (xs w z : List ℕ) (i n : ℕ) → w ≡ slice_range xs i (i + n) → length w ≡ n → drop i xs ≡ take n (w ++ z) ++ drop (i + n) xs
read_moves xs w z i n e len =
    drop_split xs i (i + n) (omega arith) ∙ ap (λ l. l ++ drop (i + n) xs) (sym e ∙ sym (ap (λ k. take k (w ++ z)) (sym len) ∙ take-append_seam w z))

pub returns-then-is_among-clause-unfailing : goal.returns-then-is_among-clause-unfailing
returns-then-is_among-clause-unfailing c = λ h.
    let fails : fails_at c.args.self.now.fails c.args.self.now.calls ≡ true = search rules in
    let none : fails_at c.args.self.now.fails c.args.self.now.calls ≡ false = none_fails_now c.args.self.now.fails c.args.self.now.calls h in
    cc

pub returns-then-n-eq0-clause-bytes : goal.returns-then-n-eq0-clause-bytes
returns-then-n-eq0-clause-bytes c = (grind arith, grind (arith, common_steps))

pub returns-then-n-eq0-clause-unfailing : goal.returns-then-n-eq0-clause-unfailing
returns-then-n-eq0-clause-unfailing c = λ h. record {
  answers = λ e. cc;
  faults = search rules;
  stays = none_fails_later c.self.inside.fails.items c.self.inside.calls _ (grind arith) (let P : MemorySourceState → Type 0 = λ s. fails_no_more s.fails s.calls ≡ true in subst P (sym c.self.view_is) h);
}

pub returns-clause-bytes : goal.returns-clause-bytes
returns-clause-bytes c = (omega arith, grind (arith, common_steps), ap (λ (s : MemorySourceState). s.left) (sym c.self.view_is) ∙ read_moves c.self.inside.bytes.items c.copy_from_slice.new.self _ c.self.inside.at c.min-n.result (grind (arith, common_steps)) (grind (arith, common_steps)))

pub returns-clause-unfailing : goal.returns-clause-unfailing
returns-clause-unfailing c = λ h. record {
  answers = λ e. cc;
  faults = search rules;
  stays = none_fails_later c.self.inside.fails.items c.self.inside.calls _ (grind arith) (let P : MemorySourceState → Type 0 = λ s. fails_no_more s.fails s.calls ≡ true in subst P (sym c.self.view_is) h);
}
