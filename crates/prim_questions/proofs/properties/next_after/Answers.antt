use Rattle.std.proofs.Common.{◌≡◌, ℕ, ap, subst, ◌∙◌}
use Rattle.std.specs.Prelude.{IfOk, option_map}
use Rattle.text_model.specs.PropertyQuestions.{next_change}
use Rattle.editor_model.specs.Editor.{buffer_at}
use Rattle.editor_model.specs.Arguments.{place, number}
use Rattle.editor_model.specs.PropertyCalls.{up_to}
use Rattle.ek_types.specs.Property.{number_of}
use Rattle.ek_call.specs.Meaning.{view}
use Rattle.prop_intervals.specs.Sets.{changes_of, sets_in}
use Rattle.buffer_table.specs.Kept.{editor_of}
use Rattle.prim_questions.specs.Searches.{changes_in}
use Rattle.prim_questions.proofs.TextChanges.{same_changes, up_to_ends}
use Rattle.prim_questions.proofs.properties.next_after.Goals as goal

pub returns : goal.returns
returns c =
    let e = editor_of c.args.editor.now in
    let id = c.current-id.result in
    let name = option_map number_of c.args.name in
    let changes = changes_of name (sets_in (buffer_at e id).text) in
    let limit = c.number-limit.result in
    let end = c.bounds.result.end in
    let same : up_to c.next_change.result limit ≡ up_to (next_change c.place.result end changes) limit = up_to_ends end limit c.ends-to.result c.next_change.result (next_change c.place.result end changes) c.ends-to.ensures
    (λ h. c.next_change.ensures.exact ∙ ap (λ n. next_change c.place.result n changes) h)
    (λ h. c.next_change.ensures.within end h) in
    subst (λ w. IfOk c.up_to.result (λ v. view v ≡ w))
    (same ∙ ap (λ n. up_to (next_change c.place.result n changes) limit) c.bounds.ensures.end
    ∙ ap (λ q. up_to (next_change q (buffer_at e id).end changes) limit) c.place.ensures
    ∙ ap (up_to (next_change (place e (view c.args.p.now)) (buffer_at e id).end changes)) c.number-limit.ensures
    ∙ ap (λ cs. up_to (next_change (place e (view c.args.p.now)) (buffer_at e id).end cs) (number e (view c.args.limit.now))) (same_changes name (buffer_at e id).text)
    ∙ ap (λ (i : ℕ). up_to (next_change (place e (view c.args.p.now)) (buffer_at e i).end (changes_in name (buffer_at e i).text)) (number e (view c.args.limit.now))) c.current-id.ensures.number)
    c.up_to.ensures
