use Rattle.std.proofs.Common.{append-nil, ◌≡◌, false, length, drop, ap, sym, subst, ◌∙◌, arith}
use Rattle.std.specs.List.{zip}
use Rattle.text_model.specs.Marks.{Marks}
use Rattle.text_model.specs.Undo.{Deleted}
use Rattle.text_model.specs.Commit.{inserted, moves_behind, undo_one}
use Rattle.gap_text.specs.Text.{LiesIn, characters}
use Rattle.ek_types.proofs.Pieces.{length-zip}
use Rattle.prop_intervals.specs.Sets.{together}
use Rattle.buffer_core.specs.Meaning.{Stored, site_of}
use Rattle.buffer_core.specs.Standing.{AreWithin}
use Rattle.buffer_core.specs.Undoing.{standing, all_less}
use Rattle.buffer_core.proofs.Sizes.{text_size}
use Rattle.buffer_core.proofs.Returning.{put_back_site, taken_back_within}
use Rattle.buffer_core.proofs.UndoLemmas.{point_stays, holds_refused}
use Rattle.buffer_core.proofs.buffer.Buffer.put_back.Goals as goal

pub returns-clause-site : goal.returns-clause-site
returns-clause-site c =
    let lies : LiesIn c.insert.new.pool c.self-2.inside.text = subst (λ (b : Stored). LiesIn c.insert.new.pool b.text) (sym c.self-2.view_is) c.in_ok-insert.ensures.lies in
    let whole : length (characters c.insert.new.pool c.self-2.inside.text) ≡ length c.self-2.inside.props = text_size c.insert.new.pool c.self-2.inside.text c.self-2.inside.props lies c.self-2.invariant.size in
    let size : c.len-size.result ≡ length (zip (characters c.insert.new.pool c.insert.new.self.text) c.insert.new.self.sets) =
    subst (λ (b : Stored). c.len-size.result ≡ length (zip (characters c.insert.new.pool b.text) b.sets)) c.self-2.view_is
    (c.len-size.ensures.characters c.insert.new.pool lies ∙ sym (length-zip (characters c.insert.new.pool c.self-2.inside.text) c.self-2.inside.props (omega (arith, whole)))) in
    let moves : c.in_ok-moves.moves.items ≡ standing c.args.id c.args.place c.args.marks.now.markers (moves_behind (drop c.args.i c.args.records.now.state.entries)) =
    c.in_ok-moves.ensures ∙ ap (λ (m : Marks). standing c.args.id c.args.place m.markers (moves_behind (drop c.args.i c.args.records.now.state.entries))) c.marks.view_is in
    let markers : c.take_all_back.new.markers ≡ all_less c.args.id c.len-size.result c.in_ok-moves.moves.items c.insert.new.marks.markers =
    c.take_all_back.ensures.moved ∙ ap (λ ms. all_less c.args.id c.len-size.result ms c.marks-2.inside.markers) c.deref.ensures.value ∙ ap (λ (m : Marks). all_less c.args.id c.len-size.result c.in_ok-moves.moves.items m.markers) c.marks-2.view_is in
    let site = c.in_ok-insert.ensures.ok ∙ ap (λ (b : Stored). inserted c.args.id c.args.place (together c.from_ref.result.now) false false (site_of c.args.pool.now b c.args.marks.now)) c.set_point.ensures
    ∙ ap (λ p. inserted c.args.id c.args.place p false false (site_of c.args.pool.now (record c.args.self.now { point = c.args.place }) c.args.marks.now)) (ap together c.from_ref.ensures.value ∙ append-nil c.args.piece.now) in
    subst (λ (m : Marks). site_of c.insert.new.pool c.insert.new.self (record m { markers = c.take_all_back.new.markers }) ≡ undo_one c.args.id (Deleted c.args.piece.now c.args.place) (moves_behind (drop c.args.i c.args.records.now.state.entries)) (site_of c.args.pool.now c.args.self.now c.args.marks.now)) (sym c.marks-2.view_is)
    (put_back_site c.args.id c.args.place c.len-size.result c.args.piece.now c.args.pool.now c.insert.new.pool c.args.self.now c.insert.new.self c.args.marks.now c.insert.new.marks
    (moves_behind (drop c.args.i c.args.records.now.state.entries)) c.in_ok-moves.moves.items c.take_all_back.new.markers site size moves markers)

pub returns-clause-marks : goal.returns-clause-marks
returns-clause-marks c =
    let lies : LiesIn c.insert.new.pool c.self-2.inside.text = subst (λ (b : Stored). LiesIn c.insert.new.pool b.text) (sym c.self-2.view_is) c.in_ok-insert.ensures.lies in
    let whole : length (characters c.insert.new.pool c.self-2.inside.text) ≡ length c.self-2.inside.props = text_size c.insert.new.pool c.self-2.inside.text c.self-2.inside.props lies c.self-2.invariant.size in
    let size : c.len-size.result ≡ length c.insert.new.self.sets = c.len-size.ensures.characters c.insert.new.pool lies ∙ whole ∙ ap (λ (b : Stored). length b.sets) c.self-2.view_is in
    let markers : c.take_all_back.new.markers ≡ all_less c.args.id (length c.insert.new.self.sets) c.in_ok-moves.moves.items c.insert.new.marks.markers =
    c.take_all_back.ensures.moved ∙ ap (λ ms. all_less c.args.id c.len-size.result ms c.marks-2.inside.markers) c.deref.ensures.value ∙ ap (λ (m : Marks). all_less c.args.id c.len-size.result c.in_ok-moves.moves.items m.markers) c.marks-2.view_is
    ∙ ap (λ n. all_less c.args.id n c.in_ok-moves.moves.items c.insert.new.marks.markers) size in
    subst (λ (m : Marks). AreWithin c.args.id (length c.insert.new.self.sets) (record m { markers = c.take_all_back.new.markers })) (sym c.marks-2.view_is)
    (subst (λ ms. AreWithin c.args.id (length c.insert.new.self.sets) (record c.insert.new.marks { markers = ms })) (sym markers)
    (taken_back_within c.args.id (length c.insert.new.self.sets) c.in_ok-moves.moves.items c.insert.new.marks c.in_ok-insert.ensures.marks))

pub returns-in_err-insert-clause-err : goal.returns-in_err-insert-clause-err
returns-in_err-insert-clause-err c =
    holds_refused c.from_residual-in_err-insert.result
    (point_stays c.args.place (site_of c.args.pool.now c.args.self.now c.args.marks.now) (site_of c.insert.new.pool c.insert.new.self c.insert.new.marks)
    (c.in_err-insert.ensures.err ∙ ap (λ (b : Stored). site_of c.args.pool.now b c.args.marks.now) c.set_point.ensures))
