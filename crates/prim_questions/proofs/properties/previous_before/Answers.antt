use Rattle.std.proofs.Common.{◌≡◌, ℕ, ap, subst, ◌∙◌}
use Rattle.std.specs.Prelude.{IfOk, option_map}
use Rattle.text_model.specs.PropertyQuestions.{previous_change}
use Rattle.editor_model.specs.Editor.{buffer_at}
use Rattle.editor_model.specs.Arguments.{place, number}
use Rattle.editor_model.specs.PropertyCalls.{down_to}
use Rattle.ek_types.specs.Property.{number_of}
use Rattle.ek_call.specs.Meaning.{view}
use Rattle.prop_intervals.specs.Sets.{changes_of, sets_in}
use Rattle.buffer_table.specs.Kept.{editor_of}
use Rattle.prim_questions.specs.Searches.{changes_in}
use Rattle.prim_questions.proofs.TextChanges.{same_changes, down_to_ends}
use Rattle.prim_questions.proofs.properties.previous_before.Goals as goal

pub returns : goal.returns
returns c =
    let e = editor_of c.args.editor.now in
    let id = c.current-id.result in
    let name = option_map number_of c.args.name in
    let changes = changes_of name (sets_in (buffer_at e id).text) in
    let limit = c.number-limit.result in
    let begin = c.bounds.result.start in
    let same : down_to c.prev_change.result limit ≡ down_to (previous_change begin c.place.result changes) limit = down_to_ends begin limit c.ends_behind-from.result c.prev_change.result (previous_change begin c.place.result changes) c.ends_behind-from.ensures
    (λ h. c.prev_change.ensures.exact ∙ ap (λ n. previous_change n c.place.result changes) h)
    (λ h. c.prev_change.ensures.within begin h) in
    subst (λ w. IfOk c.down_to.result (λ v. view v ≡ w))
    (same ∙ ap (λ n. down_to (previous_change n c.place.result changes) limit) c.bounds.ensures.start
    ∙ ap (λ q. down_to (previous_change (buffer_at e id).begin q changes) limit) c.place.ensures
    ∙ ap (down_to (previous_change (buffer_at e id).begin (place e (view c.args.p.now)) changes)) c.number-limit.ensures
    ∙ ap (λ cs. down_to (previous_change (buffer_at e id).begin (place e (view c.args.p.now)) cs) (number e (view c.args.limit.now))) (same_changes name (buffer_at e id).text)
    ∙ ap (λ (i : ℕ). down_to (previous_change (buffer_at e i).begin (place e (view c.args.p.now)) (changes_in name (buffer_at e i).text)) (number e (view c.args.limit.now))) c.current-id.ensures.number)
    c.down_to.ensures
