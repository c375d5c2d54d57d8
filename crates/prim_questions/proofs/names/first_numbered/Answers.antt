use Rattle.std.proofs.Common.{◌≡◌, ◌+◌, ◌-◌, true, false, length, ap, sym, ◌∙◌, arith}
use Rattle.std.specs.Prelude.{is_some}
use Rattle.std.proofs.lemmas.List.{length-map}
use Rattle.editor_model.specs.Editor.{find_from, numbered_name, first_numbered}
use Rattle.buffer_table.specs.Kept.{editor_of}
use Rattle.prim_questions.specs.Names.{rivals}
use Rattle.prim_questions.proofs.NameLemmas.{tried, found_free, is_free}
use Rattle.prim_questions.proofs.names.first_numbered.Goals as goal

pub loop-n-init : goal.loop-n-init
loop-n-init c =
    let e = editor_of c.args.editor.now in
    λ l. ap (λ t. first_numbered t 2 (rivals c.args.but_current e) c.args.name.now.items) (let k : length e.buffers + 2 - 2 ≡ length e.buffers = omega arith in k)

pub loop-n-preserved : goal.loop-n-preserved
loop-n-preserved c =
    let e = editor_of c.args.editor.now in
    let bs = rivals c.args.but_current e in
    let name = c.args.name.now.items in
    let n = c.loop-n.n in
    let found : is_some (find_from 0 bs (numbered_name name n)) ≡ true =
    ap (λ m. is_some (find_from 0 bs m)) (sym c.in_ok-longer.ensures) ∙ sym c.is_taken.ensures ∙ c.if-not-is_taken.false in
    λ l.
    let less : length e.buffers + 2 - (n + 1) ≡ length e.buffers + 2 - n - 1 = omega arith in
    ap (λ t. first_numbered t (n + 1) bs name) less ∙ sym (tried (length e.buffers + 2 - n) n bs name (omega arith) found) ∙ c.loop-n.invariant (omega arith)

pub returns-then-not-is_taken-clause-name : goal.returns-then-not-is_taken-clause-name
returns-then-not-is_taken-clause-name c =
    let e = editor_of c.args.editor.now in
    let bs = rivals c.args.but_current e in
    let name = c.args.name.now.items in
    let n = c.loop-n.n in
    let free : is_some (find_from 0 bs (numbered_name name n)) ≡ false =
    ap (λ m. is_some (find_from 0 bs m)) (sym c.in_ok-longer.ensures) ∙ sym c.is_taken.ensures ∙ c.if-not-is_taken.true in
    let size : length e.buffers ≡ length c.args.editor.now.buffers = grind (arith, length-map) in
    c.in_ok-longer.ensures ∙ found_free (length e.buffers + 2 - n) n bs name free ∙ c.loop-n.invariant (grind (arith, size))

pub returns-then-not-is_taken-clause-free : goal.returns-then-not-is_taken-clause-free
returns-then-not-is_taken-clause-free c = is_free _ (sym c.is_taken.ensures ∙ c.if-not-is_taken.true)
