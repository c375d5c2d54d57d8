use Rattle.std.proofs.Common.{◌≡◌, ℕ, ap, sym, ◌∙◌, true, false, arith}
use Rattle.std.specs.Prelude.{Bool, option_map, slice_get, Some}
use Rattle.std.proofs.lemmas.Option.{slice_get-map}
use Rattle.prop_intervals.specs.Sets.{run_end, sets_in}
use Rattle.text_model.specs.Properties.{Cell, PropSet, get, same_option, same_value}
use Rattle.editor_model.specs.Editor.{here, buffer_at}
use Rattle.ek_types.specs.Property.{number_of, prop_of}
use Rattle.buffer_table.specs.Kept.{editor_of}
use Rattle.prim_questions.specs.Searches.{wanted}
use Rattle.prim_questions.proofs.TextChanges.{where_found, where_run_passed, where_ended}
use Rattle.prim_questions.proofs.properties.first_place.Goals as goal

pub returns-then-wanted : goal.returns-then-wanted
returns-then-wanted c =
    let e = editor_of c.args.editor.now in
    let there : option_map (λ c. c.1) (slice_get (here e).text c.runs.i) ≡ Some c.props_at.result.now = ap (λ (i : ℕ). option_map (λ (x : Cell). x.1) (slice_get (buffer_at e i).text c.runs.i)) (sym c.current-id.ensures.number) ∙ c.props_at.ensures.exact in
    let v = option_map (λ v. prop_of v.now) c.args.value in
    let test : PropSet → Bool = λ (s : PropSet). wanted c.args.has (same_option same_value (get s (number_of c.args.name)) v) in
    let passes : test c.props_at.result.now ≡ true = ap (λ g. wanted c.args.has (same_option same_value g v)) (sym c.get.ensures) ∙ ap (wanted c.args.has) (sym c.same_option.ensures) ∙ sym c.wanted.ensures ∙ c.if-wanted.true in
    where_found test (here (editor_of c.args.editor.now)).text c.args.to c.runs.i c.props_at.result.now _ (omega arith) there passes c.runs.invariant

pub runs-preserved : goal.runs-preserved
runs-preserved c =
    let e = editor_of c.args.editor.now in
    let there : option_map (λ c. c.1) (slice_get (here e).text c.runs.i) ≡ Some c.props_at.result.now = ap (λ (i : ℕ). option_map (λ (x : Cell). x.1) (slice_get (buffer_at e i).text c.runs.i)) (sym c.current-id.ensures.number) ∙ c.props_at.ensures.exact in
    let v = option_map (λ v. prop_of v.now) c.args.value in
    let test : PropSet → Bool = λ (s : PropSet). wanted c.args.has (same_option same_value (get s (number_of c.args.name)) v) in
    let fails : test c.props_at.result.now ≡ false = ap (λ g. wanted c.args.has (same_option same_value g v)) (sym c.get.ensures) ∙ ap (wanted c.args.has) (sym c.same_option.ensures) ∙ sym c.wanted.ensures ∙ c.if-wanted.false in
    let text = (here (editor_of c.args.editor.now)).text in
    let set : slice_get (sets_in text) c.runs.i ≡ Some c.props_at.result.now = slice_get-map (λ (x : Cell). x.1) text c.runs.i ∙ there in
    let end : c.run_end-i.result ≡ run_end c.runs.i (sets_in text) = c.run_end-i.ensures.exact ∙ ap (λ (i : ℕ). run_end c.runs.i (sets_in (buffer_at e i).text)) c.current-id.ensures.number in
    where_run_passed test text c.args.to c.runs.i c.run_end-i.result c.props_at.result.now _ set fails end (omega (arith, c.run_end-i.ensures.behind)) c.runs.invariant

pub returns : goal.returns
returns c =
    let v = option_map (λ v. prop_of v.now) c.args.value in
    let test : PropSet → Bool = λ (s : PropSet). wanted c.args.has (same_option same_value (get s (number_of c.args.name)) v) in
    where_ended test (here (editor_of c.args.editor.now)).text c.args.to c.runs.i _ (omega arith) c.runs.invariant
