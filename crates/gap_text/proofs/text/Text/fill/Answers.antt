use Rattle.std.proofs.Common.{◌≡◌, ◌≤◌, ◌*◌, ◌-◌, length, take, ap, ◌∙◌, sym, subst, arith}
use Rattle.gap_text.specs.Blocks.{IsRow, cells_of}
use Rattle.gap_text.specs.Text.{Gapped, codes}
use Rattle.ek_types.proofs.Readings.{length-read}
use Rattle.gap_text.proofs.Texts.{made}
use Rattle.gap_text.proofs.Elsewhere.{SameText}
use Rattle.gap_text.proofs.Copying.{filled_text}
use Rattle.gap_text.proofs.text.Text.fill.Goals as goal

pub overflow_sub-self : goal.overflow_sub-self
overflow_sub-self c =
    omega (arith, ap (λ (t : Gapped). t.spare) c.self.view_is, length-read (codes c.args.pool.now c.args.from.now) c.requires.from_lies.codes, c.len-count.ensures.characters c.args.pool.now c.requires.from_lies)

pub invariant_of-self : goal.invariant_of-self
invariant_of-self c = record {
  distinct = c.self.invariant.distinct;
  gap = omega (arith, c.self.invariant.gap, ap (λ (t : Gapped). t.spare) c.self.view_is, ap (λ (t : Gapped). length t.blocks) c.self.view_is, length-read (codes c.args.pool.now c.args.from.now) c.requires.from_lies.codes, c.len-count.ensures.characters c.args.pool.now c.requires.from_lies);
  countable = c.self.invariant.countable;
}

after : (c : goal.After-self-2-1) → SameText c.args.pool.now c.copy_codes.new.pool c.args.from.now (made c.self.inside.blocks.items c.len-count.result (c.self.inside.spare - c.len-count.result))
after c =
    let empty : c.self.inside.spare ≡ 256 * length c.self.inside.blocks.items = subst (λ (t : Gapped). t.spare ≡ 256 * length t.blocks) (sym c.self.view_is) c.requires.empty in
    let n : c.len-count.result ≡ length (codes c.args.pool.now c.args.from.now) =
    c.len-count.ensures.characters c.args.pool.now c.requires.from_lies ∙ length-read (codes c.args.pool.now c.args.from.now) c.requires.from_lies.codes in
    let room : c.len-count.result ≤ c.self.inside.spare = omega (arith, ap (λ (t : Gapped). t.spare) c.self.view_is) in
    let written : take (length (codes c.args.pool.now c.args.from.now)) (cells_of c.copy_codes.new.pool c.self.inside.blocks.items) ≡ codes c.args.pool.now c.args.from.now =
    subst (λ b. take (length (codes c.args.pool.now c.args.from.now)) (cells_of c.copy_codes.new.pool b) ≡ codes c.args.pool.now c.args.from.now) c.as_slice.ensures.value c.copy_codes.ensures.written in
    filled_text c.args.pool.now c.copy_codes.new.pool c.args.from.now c.self.inside.blocks.items c.self.inside.spare c.len-count.result empty c.requires.from_lies n room written
    (subst (IsRow c.copy_codes.new.pool) c.as_slice.ensures.value c.copy_codes.ensures.row)

pub returns-clause-lies : goal.returns-clause-lies
returns-clause-lies c = (after c).lies

pub returns-clause-codes : goal.returns-clause-codes
returns-clause-codes c = (after c).codes
