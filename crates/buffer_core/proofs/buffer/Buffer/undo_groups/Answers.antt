use Rattle.std.proofs.Common.{◌≡◌, List, take, Ok, None, ap, sym, subst, ◌∙◌}
use Rattle.std.specs.Prelude.{OnOk}
use Rattle.std.proofs.lemmas.List.Elements.{All-take, All-drop}
use Rattle.text_model.specs.Undo.{Undo, Entry, trial, passed}
use Rattle.text_model.specs.Commit.{Site, undo_each, undone_groups}
use Rattle.undo_list.specs.Plans.{planned}
use Rattle.buffer_core.specs.Meaning.{Stored, CanBeUndone, site_of}
use Rattle.buffer_core.specs.Undoing.{with_pending}
use Rattle.buffer_core.proofs.Recorded.{Undoable}
use Rattle.buffer_core.proofs.UndoLemmas.{undone_plan}
use Rattle.buffer_core.proofs.buffer.Buffer.undo_groups.Goals as goal

pub undo_in_place-requires-clause-inside : goal.undo_in_place-requires-clause-inside
undo_in_place-requires-clause-inside c =
    let start = c.self.inside.bounds.start in
    let end = c.self.inside.bounds.end in
    let groups = c.requires.plan.0 in
    let is_planned : planned groups start end c.self.inside.undo.state ≡ Ok c.args.plan.now = subst (λ (b : Stored). planned groups b.begin b.end b.undo.state ≡ Ok c.args.plan.now) (sym c.self.view_is) c.requires.plan.2 in
    subst (λ (b : Stored). trial b.begin b.end c.in_ok-records.records.state.entries ≡ None) c.self.view_is
    (ap (λ (u : Undo). trial start end u.entries) c.in_ok-records.ensures
    ∙ ap (trial start end) (c.passed-first.ensures.records groups start end c.requires.plan.1 is_planned)
    ∙ c.passed-first.ensures.inside groups start end c.requires.plan.1 is_planned)

pub undo_in_place-requires-clause-undoable : goal.undo_in_place-requires-clause-undoable
undo_in_place-requires-clause-undoable c =
    let all : Undoable c.self.inside.undo.state.entries = subst (λ (b : Stored). Undoable b.undo.state.entries) (sym c.self.view_is) c.requires.undoable in
    subst (λ (u : Undo). Undoable u.entries) (sym c.in_ok-records.ensures)
    (All-drop (λ (e : Entry). CanBeUndone e.what) c.passed-first.result.0 (take c.passed-first.result.1 c.self.inside.undo.state.entries) (All-take (λ (e : Entry). CanBeUndone e.what) c.passed-first.result.1 c.self.inside.undo.state.entries all))

pub returns-then-is_one_change-clause-ok : goal.returns-then-is_one_change-clause-ok
returns-then-is_one_change-clause-ok c groups one is_plan =
    let start = c.self.inside.bounds.start in
    let end = c.self.inside.bounds.end in
    let is_planned : planned groups start end c.self.inside.undo.state ≡ Ok c.args.plan.now = subst (λ (b : Stored). planned groups b.begin b.end b.undo.state ≡ Ok c.args.plan.now) (sym c.self.view_is) is_plan in
    let records : c.in_ok-records.records.state.entries ≡ passed groups c.self.inside.undo.state = ap (λ (u : Undo). u.entries) c.in_ok-records.ensures ∙ c.passed-first.ensures.records groups start end one is_planned in
    let old : Stored = record { text = c.self.inside.text; sets = c.self.inside.props; begin = start; end = end; point = c.self.inside.bounds.point; modified = c.self.inside.modified; undo = c.self.inside.undo } in
    let below = c.args.plan.now.last in
    let site = site_of c.args.pool.now old c.args.marks.now in
    let new = site_of c.undo_in_place.new.pool c.undo_in_place.new.self c.undo_in_place.new.marks in
    let undone : OnOk c.undo_in_place.result (new ≡ undo_each c.args.id c.in_ok-records.records.state.entries (with_pending below site)) =
    subst (λ (b : Stored). OnOk c.undo_in_place.result (new ≡ undo_each c.args.id c.in_ok-records.records.state.entries (with_pending below (site_of c.args.pool.now b c.args.marks.now)))) (sym c.self.view_is) c.undo_in_place.ensures.ok in
    subst (λ (b : Stored). OnOk c.undo_in_place.result (new ≡ undone_groups c.args.id (passed groups b.undo.state) (site_of c.args.pool.now b c.args.marks.now))) c.self.view_is
    (subst (λ (s : Site). OnOk c.undo_in_place.result (new ≡ s))
    (ap (λ (es : List Entry). undo_each c.args.id es (with_pending below site)) records ∙ undone_plan c.args.id below c.args.pool.now old c.args.marks.now (passed groups c.self.inside.undo.state) (c.passed-first.ensures.pass groups start end one is_planned))
    undone)

pub undo_or_go_back-requires-clause-inside : goal.undo_or_go_back-requires-clause-inside
undo_or_go_back-requires-clause-inside c =
    let start = c.self.inside.bounds.start in
    let end = c.self.inside.bounds.end in
    let groups = c.requires.plan.0 in
    let is_planned : planned groups start end c.self.inside.undo.state ≡ Ok c.args.plan.now = subst (λ (b : Stored). planned groups b.begin b.end b.undo.state ≡ Ok c.args.plan.now) (sym c.self.view_is) c.requires.plan.2 in
    subst (λ (b : Stored). trial b.begin b.end c.in_ok-records.records.state.entries ≡ None) c.self.view_is
    (ap (λ (u : Undo). trial start end u.entries) c.in_ok-records.ensures
    ∙ ap (trial start end) (c.passed-first.ensures.records groups start end c.requires.plan.1 is_planned)
    ∙ c.passed-first.ensures.inside groups start end c.requires.plan.1 is_planned)

pub undo_or_go_back-requires-clause-undoable : goal.undo_or_go_back-requires-clause-undoable
undo_or_go_back-requires-clause-undoable c =
    let all : Undoable c.self.inside.undo.state.entries = subst (λ (b : Stored). Undoable b.undo.state.entries) (sym c.self.view_is) c.requires.undoable in
    subst (λ (u : Undo). Undoable u.entries) (sym c.in_ok-records.ensures)
    (All-drop (λ (e : Entry). CanBeUndone e.what) c.passed-first.result.0 (take c.passed-first.result.1 c.self.inside.undo.state.entries) (All-take (λ (e : Entry). CanBeUndone e.what) c.passed-first.result.1 c.self.inside.undo.state.entries all))

pub returns-clause-ok : goal.returns-clause-ok
returns-clause-ok c groups one is_plan =
    let start = c.self.inside.bounds.start in
    let end = c.self.inside.bounds.end in
    let is_planned : planned groups start end c.self.inside.undo.state ≡ Ok c.args.plan.now = subst (λ (b : Stored). planned groups b.begin b.end b.undo.state ≡ Ok c.args.plan.now) (sym c.self.view_is) is_plan in
    let records : c.in_ok-records.records.state.entries ≡ passed groups c.self.inside.undo.state = ap (λ (u : Undo). u.entries) c.in_ok-records.ensures ∙ c.passed-first.ensures.records groups start end one is_planned in
    let old : Stored = record { text = c.self.inside.text; sets = c.self.inside.props; begin = start; end = end; point = c.self.inside.bounds.point; modified = c.self.inside.modified; undo = c.self.inside.undo } in
    let below = c.args.plan.now.last in
    let site = site_of c.args.pool.now old c.args.marks.now in
    let new = site_of c.undo_or_go_back.new.pool c.undo_or_go_back.new.self c.undo_or_go_back.new.marks in
    let undone : OnOk c.undo_or_go_back.result (new ≡ undo_each c.args.id c.in_ok-records.records.state.entries (with_pending below site)) =
    subst (λ (b : Stored). OnOk c.undo_or_go_back.result (new ≡ undo_each c.args.id c.in_ok-records.records.state.entries (with_pending below (site_of c.args.pool.now b c.args.marks.now)))) (sym c.self.view_is) c.undo_or_go_back.ensures.ok in
    subst (λ (b : Stored). OnOk c.undo_or_go_back.result (new ≡ undone_groups c.args.id (passed groups b.undo.state) (site_of c.args.pool.now b c.args.marks.now))) c.self.view_is
    (subst (λ (s : Site). OnOk c.undo_or_go_back.result (new ≡ s))
    (ap (λ (es : List Entry). undo_each c.args.id es (with_pending below site)) records ∙ undone_plan c.args.id below c.args.pool.now old c.args.marks.now (passed groups c.self.inside.undo.state) (c.passed-first.ensures.pass groups start end one is_planned))
    undone)
