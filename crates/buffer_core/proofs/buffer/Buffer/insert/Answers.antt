use Rattle.std.proofs.Common.{◌≡◌, ◌+◌, ◌-◌, ◌*◌, ◌^◌, ◌<◌, ◌≤◌, [], ◌∷◌, ◌++◌, length, take, drop, true, refl, ap, subst, sym, ◌∙◌, arith}
use Rattle.std.specs.Prelude.{if◌then◌else◌}
use Rattle.std.proofs.lemmas.List.{length-map}
use Rattle.text_model.specs.Properties.{Cell}
use Rattle.text_model.specs.Places.{after_insert}
use Rattle.text_model.specs.Marks.{Marks, move_marks, insertion}
use Rattle.text_model.specs.Undo.{Undo, Inserted, First, pushed}
use Rattle.gap_text.specs.Text.{LiesIn, characters}
use Rattle.prop_intervals.specs.Sets.{sets_in, together}
use Rattle.buffer_core.specs.Meaning.{Stored, letters}
use Rattle.buffer_core.specs.Standing.{AreWithin}
use Rattle.buffer_core.proofs.Orders.{within_insert}
use Rattle.buffer_core.proofs.Recorded.{Undoable, undoable-same, undoable-first, undoable-pushed}
use Rattle.buffer_core.proofs.Sites.{inserted_site, first_pushed}
use Rattle.buffer_core.proofs.Sizes.{text_size, sized, more_blocks, length-spliced, counted}
use Rattle.buffer_core.proofs.StandingLemmas.{room_within, within_inserted}
use Rattle.buffer_core.proofs.UndoLemmas.{holds_refused}
use Rattle.buffer_core.proofs.buffer.Buffer.insert.Goals as goal

pub invariant_of-self-in_err-reserve-2 : goal.invariant_of-self-in_err-reserve-2
invariant_of-self-in_err-reserve-2 c =
    let lies : LiesIn c.args.pool.now c.self.inside.text = subst (λ (b : Stored). LiesIn c.args.pool.now b.text) (sym c.self.view_is) c.requires.lies in
    let size : length (characters c.args.pool.now c.self.inside.text) ≡ length c.self.inside.props = text_size c.args.pool.now c.self.inside.text c.self.inside.props lies c.self.invariant.size in
    record {
      size = sized c.reserve.new.pool c.reserve.new.self (length c.self.inside.props) c.in_ok-reserve.ensures.lies (ap length c.in_ok-reserve.ensures.characters ∙ size);
      begin = c.self.invariant.begin;
      point = c.self.invariant.point;
      end = c.self.invariant.end;
      undo = undoable-same c.self.inside.undo.state c.reserve-2.new.self.state c.in_err-reserve-2.ensures.state c.self.invariant.undo;
    }

pub invariant_of-self-in_err-splice : goal.invariant_of-self-in_err-splice
invariant_of-self-in_err-splice c =
    let lies : LiesIn c.args.pool.now c.self.inside.text = subst (λ (b : Stored). LiesIn c.args.pool.now b.text) (sym c.self.view_is) c.requires.lies in
    let size : length (characters c.args.pool.now c.self.inside.text) ≡ length c.self.inside.props = text_size c.args.pool.now c.self.inside.text c.self.inside.props lies c.self.invariant.size in
    let kept : length c.splice.new.self ≡ length c.self.inside.props = ap length c.in_err-splice.ensures.err in
    record {
      size = sized c.reserve.new.pool c.reserve.new.self (length c.splice.new.self) c.in_ok-reserve.ensures.lies (ap length c.in_ok-reserve.ensures.characters ∙ size ∙ sym kept);
      begin = c.self.invariant.begin;
      point = c.self.invariant.point;
      end = omega (arith, c.self.invariant.end);
      undo = undoable-same c.self.inside.undo.state c.reserve-2.new.self.state c.in_ok-reserve-2.ensures.state c.self.invariant.undo;
    }

pub put_characters-requires-clause-place : goal.put_characters-requires-clause-place
put_characters-requires-clause-place c =
    let lies : LiesIn c.args.pool.now c.self.inside.text = subst (λ (b : Stored). LiesIn c.args.pool.now b.text) (sym c.self.view_is) c.requires.lies in
    let size : length (characters c.args.pool.now c.self.inside.text) ≡ length c.self.inside.props = text_size c.args.pool.now c.self.inside.text c.self.inside.props lies c.self.invariant.size in
    let sets : length c.self.inside.props ≡ length c.args.self.now.sets = ap (λ (b : Stored). length b.sets) c.self.view_is in
    let same : length (characters c.reserve.new.pool c.reserve.new.self) ≡ length (characters c.args.pool.now c.self.inside.text) = ap length c.in_ok-reserve.ensures.characters in
    omega (arith, c.requires.place)

pub note_insert-requires : goal.note_insert-requires
note_insert-requires c =
    let lies : LiesIn c.args.pool.now c.self.inside.text = subst (λ (b : Stored). LiesIn c.args.pool.now b.text) (sym c.self.view_is) c.requires.lies in
    let size : length (characters c.args.pool.now c.self.inside.text) ≡ length c.self.inside.props = text_size c.args.pool.now c.self.inside.text c.self.inside.props lies c.self.invariant.size in
    let sets : length c.self.inside.props ≡ length c.args.self.now.sets = ap (λ (b : Stored). length b.sets) c.self.view_is in
    let same : length (characters c.reserve.new.pool c.reserve.new.self) ≡ length c.self.inside.props = ap length c.in_ok-reserve.ensures.characters ∙ size in
    let n : c.in-Some.n ≡ length (together c.args.pieces.now) = c.in-Some.ensures.some in
    let letters_n : c.in-Some.n ≡ length (letters (together c.args.pieces.now)) = n ∙ sym (length-map (together c.args.pieces.now) (λ (x : Cell). x.0)) in
    let fits : c.in-Some.n + length c.self.inside.props < 2 ^ 64 =
    counted c.args.at c.in-Some.n (length c.self.inside.props) c.len-size.result (characters c.reserve.new.pool c.reserve.new.self) (characters c.put_characters.new.pool c.put_characters.new.text) (letters (together c.args.pieces.now))
    (omega (arith, c.requires.place)) same letters_n c.put_characters.ensures.characters (c.len-size.ensures.characters c.put_characters.new.pool c.put_characters.ensures.lies) c.len-size.type_inv in
    omega (arith, c.self.invariant.end)

pub overflow_add-at : goal.overflow_add-at
overflow_add-at c =
    let lies : LiesIn c.args.pool.now c.self.inside.text = subst (λ (b : Stored). LiesIn c.args.pool.now b.text) (sym c.self.view_is) c.requires.lies in
    let size : length (characters c.args.pool.now c.self.inside.text) ≡ length c.self.inside.props = text_size c.args.pool.now c.self.inside.text c.self.inside.props lies c.self.invariant.size in
    let sets : length c.self.inside.props ≡ length c.args.self.now.sets = ap (λ (b : Stored). length b.sets) c.self.view_is in
    let same : length (characters c.reserve.new.pool c.reserve.new.self) ≡ length c.self.inside.props = ap length c.in_ok-reserve.ensures.characters ∙ size in
    let n : c.in-Some.n ≡ length (together c.args.pieces.now) = c.in-Some.ensures.some in
    let letters_n : c.in-Some.n ≡ length (letters (together c.args.pieces.now)) = n ∙ sym (length-map (together c.args.pieces.now) (λ (x : Cell). x.0)) in
    let fits : c.in-Some.n + length c.self.inside.props < 2 ^ 64 =
    counted c.args.at c.in-Some.n (length c.self.inside.props) c.len-size.result (characters c.reserve.new.pool c.reserve.new.self) (characters c.put_characters.new.pool c.put_characters.new.text) (letters (together c.args.pieces.now))
    (omega (arith, c.requires.place)) same letters_n c.put_characters.ensures.characters (c.len-size.ensures.characters c.put_characters.new.pool c.put_characters.ensures.lies) c.len-size.type_inv in
    omega (arith, c.requires.place)

pub note_insert-requires-2 : goal.note_insert-requires-2
note_insert-requires-2 c =
    let lies : LiesIn c.args.pool.now c.self.inside.text = subst (λ (b : Stored). LiesIn c.args.pool.now b.text) (sym c.self.view_is) c.requires.lies in
    let size : length (characters c.args.pool.now c.self.inside.text) ≡ length c.self.inside.props = text_size c.args.pool.now c.self.inside.text c.self.inside.props lies c.self.invariant.size in
    let sets : length c.self.inside.props ≡ length c.args.self.now.sets = ap (λ (b : Stored). length b.sets) c.self.view_is in
    let same : length (characters c.reserve.new.pool c.reserve.new.self) ≡ length c.self.inside.props = ap length c.in_ok-reserve.ensures.characters ∙ size in
    let n : c.in-Some.n ≡ length (together c.args.pieces.now) = c.in-Some.ensures.some in
    let letters_n : c.in-Some.n ≡ length (letters (together c.args.pieces.now)) = n ∙ sym (length-map (together c.args.pieces.now) (λ (x : Cell). x.0)) in
    let fits : c.in-Some.n + length c.self.inside.props < 2 ^ 64 =
    counted c.args.at c.in-Some.n (length c.self.inside.props) c.len-size.result (characters c.reserve.new.pool c.reserve.new.self) (characters c.put_characters.new.pool c.put_characters.new.text) (letters (together c.args.pieces.now))
    (omega (arith, c.requires.place)) same letters_n c.put_characters.ensures.characters (c.len-size.ensures.characters c.put_characters.new.pool c.put_characters.ensures.lies) c.len-size.type_inv in
    room_within c.args.id c.in-Some.n (length c.args.self.now.sets) c.args.marks.now c.requires.marks (omega arith)

pub invariant_of-self-2 : goal.invariant_of-self-2
invariant_of-self-2 c =
    let lies : LiesIn c.args.pool.now c.self.inside.text = subst (λ (b : Stored). LiesIn c.args.pool.now b.text) (sym c.self.view_is) c.requires.lies in
    let size : length (characters c.args.pool.now c.self.inside.text) ≡ length c.self.inside.props = text_size c.args.pool.now c.self.inside.text c.self.inside.props lies c.self.invariant.size in
    let sets : length c.self.inside.props ≡ length c.args.self.now.sets = ap (λ (b : Stored). length b.sets) c.self.view_is in
    let same : length (characters c.reserve.new.pool c.reserve.new.self) ≡ length c.self.inside.props = ap length c.in_ok-reserve.ensures.characters ∙ size in
    let n : c.in-Some.n ≡ length (together c.args.pieces.now) = c.in-Some.ensures.some in
    let letters_n : c.in-Some.n ≡ length (letters (together c.args.pieces.now)) = n ∙ sym (length-map (together c.args.pieces.now) (λ (x : Cell). x.0)) in
    let fits : c.in-Some.n + length c.self.inside.props < 2 ^ 64 =
    counted c.args.at c.in-Some.n (length c.self.inside.props) c.len-size.result (characters c.reserve.new.pool c.reserve.new.self) (characters c.put_characters.new.pool c.put_characters.new.text) (letters (together c.args.pieces.now))
    (omega (arith, c.requires.place)) same letters_n c.put_characters.ensures.characters (c.len-size.ensures.characters c.put_characters.new.pool c.put_characters.ensures.lies) c.len-size.type_inv in
    let more : length (sets_in (together c.args.pieces.now)) ≡ length (together c.args.pieces.now) = length-map (together c.args.pieces.now) (λ (x : Cell). x.1) in
    let spliced : length c.splice.new.self ≡ length c.self.inside.props - (c.args.at - c.args.at) + length (sets_in (together c.args.pieces.now)) =
    ap length c.in_ok-splice.ensures.ok ∙ length-spliced c.args.at c.args.at c.self.inside.props (sets_in (together c.args.pieces.now)) (omega arith) (omega (arith, c.requires.place)) in
    let whole : length c.splice.new.self ≡ length c.self.inside.props + c.in-Some.n = omega arith in
    let room : length c.self.inside.props + c.reserve.new.self.spare ≡ 256 * length c.reserve.new.self.blocks = sized c.reserve.new.pool c.reserve.new.self (length c.self.inside.props) c.in_ok-reserve.ensures.lies same in
    let blocks : length c.put_characters.new.text.blocks ≡ length c.reserve.new.self.blocks = ap length c.put_characters.ensures.blocks in
    let end : after_insert c.args.at c.in-Some.n true c.self.inside.bounds.end ≤ length c.self.inside.props + c.in-Some.n =
    within_insert c.args.at c.in-Some.n c.self.inside.bounds.end (length c.self.inside.props) true (omega (arith, c.requires.place)) c.self.invariant.end in
    record {
      size = omega (arith, c.put_characters.ensures.spare, n);
      begin = c.note_insert.new.self.point_after_start;
      point = c.note_insert.new.self.point_before_end;
      end = omega (arith, c.note_insert.ensures.end);
      undo = subst (λ (u : Undo). Undoable u.entries) (sym c.push_reserved.ensures.state)
          (undoable-pushed (Inserted c.args.at (c.args.at + c.in-Some.n)) c.push_first.new.undo.state (omega arith)
          (undoable-first c.self.inside.modified c.reserve-2.new.self.state c.push_first.new.undo.state c.push_first.ensures.state
          (undoable-same c.self.inside.undo.state c.reserve-2.new.self.state c.in_ok-reserve-2.ensures.state c.self.invariant.undo)));
    }

pub returns-clause-ok : goal.returns-clause-ok
returns-clause-ok c =
    let lies : LiesIn c.args.pool.now c.self.inside.text = subst (λ (b : Stored). LiesIn c.args.pool.now b.text) (sym c.self.view_is) c.requires.lies in
    let size : length (characters c.args.pool.now c.self.inside.text) ≡ length c.self.inside.props = text_size c.args.pool.now c.self.inside.text c.self.inside.props lies c.self.invariant.size in
    let n : c.in-Some.n ≡ length (together c.args.pieces.now) = c.in-Some.ensures.some in
    rw (← c.self.view_is)
    (inserted_site c.args.id c.args.at c.in-Some.n (together c.args.pieces.now) c.args.all c.args.advances c.args.pool.now c.put_characters.new.pool
    (record { text = c.self.inside.text; sets = c.self.inside.props; begin = c.self.inside.bounds.start; end = c.self.inside.bounds.end; point = c.self.inside.bounds.point; modified = c.self.inside.modified; undo = c.self.inside.undo })
    (record { text = c.put_characters.new.text; sets = c.splice.new.self; begin = c.note_insert.new.self.start; end = c.note_insert.new.self.end; point = c.note_insert.new.self.point; modified = true; undo = c.push_reserved.new.undo })
    c.args.marks.now c.note_insert-2.new.self n size
    (c.put_characters.ensures.characters ∙ ap (λ t. take c.args.at t ++ (letters (together c.args.pieces.now) ++ drop c.args.at t)) c.in_ok-reserve.ensures.characters)
    c.in_ok-splice.ensures.ok
    c.note_insert.ensures.start c.note_insert.ensures.end c.note_insert.ensures.point refl
    (first_pushed c.self.inside.modified (Inserted c.args.at (c.args.at + c.in-Some.n) ∷ []) c.self.inside.undo.state c.push_first.new.undo.state c.push_reserved.new.undo.state
    (c.push_first.ensures.state ∙ ap (λ (u : Undo). if c.self.inside.modified then u else pushed First u) c.in_ok-reserve-2.ensures.state)
    c.push_reserved.ensures.state)
    c.note_insert-2.ensures)

pub returns-clause-marks : goal.returns-clause-marks
returns-clause-marks c =
    let lies : LiesIn c.args.pool.now c.self.inside.text = subst (λ (b : Stored). LiesIn c.args.pool.now b.text) (sym c.self.view_is) c.requires.lies in
    let size : length (characters c.args.pool.now c.self.inside.text) ≡ length c.self.inside.props = text_size c.args.pool.now c.self.inside.text c.self.inside.props lies c.self.invariant.size in
    let sets : length c.self.inside.props ≡ length c.args.self.now.sets = ap (λ (b : Stored). length b.sets) c.self.view_is in
    let same : length (characters c.reserve.new.pool c.reserve.new.self) ≡ length c.self.inside.props = ap length c.in_ok-reserve.ensures.characters ∙ size in
    let n : c.in-Some.n ≡ length (together c.args.pieces.now) = c.in-Some.ensures.some in
    let letters_n : c.in-Some.n ≡ length (letters (together c.args.pieces.now)) = n ∙ sym (length-map (together c.args.pieces.now) (λ (x : Cell). x.0)) in
    let fits : c.in-Some.n + length c.self.inside.props < 2 ^ 64 =
    counted c.args.at c.in-Some.n (length c.self.inside.props) c.len-size.result (characters c.reserve.new.pool c.reserve.new.self) (characters c.put_characters.new.pool c.put_characters.new.text) (letters (together c.args.pieces.now))
    (omega (arith, c.requires.place)) same letters_n c.put_characters.ensures.characters (c.len-size.ensures.characters c.put_characters.new.pool c.put_characters.ensures.lies) c.len-size.type_inv in
    let more : length (sets_in (together c.args.pieces.now)) ≡ length (together c.args.pieces.now) = length-map (together c.args.pieces.now) (λ (x : Cell). x.1) in
    let spliced : length c.splice.new.self ≡ length c.self.inside.props - (c.args.at - c.args.at) + length (sets_in (together c.args.pieces.now)) =
    ap length c.in_ok-splice.ensures.ok ∙ length-spliced c.args.at c.args.at c.self.inside.props (sets_in (together c.args.pieces.now)) (omega arith) (omega (arith, c.requires.place)) in
    let whole : length c.splice.new.self ≡ length c.self.inside.props + c.in-Some.n = omega arith in
    subst (λ (m : Marks). AreWithin c.args.id (length c.splice.new.self) m) (sym c.note_insert-2.ensures)
    (subst (λ k. AreWithin c.args.id k (move_marks c.args.id c.args.all (insertion c.args.at c.in-Some.n) c.args.marks.now)) (let e : length c.args.self.now.sets + c.in-Some.n ≡ length c.splice.new.self = omega arith in e)
    (within_inserted c.args.id c.args.at c.in-Some.n (length c.args.self.now.sets) c.args.all c.args.marks.now c.requires.place c.requires.marks))

pub returns-in_err-reserve-clause-err : goal.returns-in_err-reserve-clause-err
returns-in_err-reserve-clause-err c = holds_refused c.from_residual.result (rw (← c.self.view_is, c.in_err-reserve.ensures.characters) refl)

pub returns-in_err-reserve-2-clause-err : goal.returns-in_err-reserve-2-clause-err
returns-in_err-reserve-2-clause-err c = holds_refused c.from_residual-in_err-reserve-2.result (rw (← c.self.view_is, c.in_ok-reserve.ensures.characters, c.in_err-reserve-2.ensures.state) refl)

pub returns-in_err-splice-clause-err : goal.returns-in_err-splice-clause-err
returns-in_err-splice-clause-err c = holds_refused c.from_residual-in_err-splice.result (rw (← c.self.view_is, c.in_ok-reserve.ensures.characters, c.in_ok-reserve-2.ensures.state, c.in_err-splice.ensures.err) refl)

pub returns-in_err-reserve-2-clause-cells : goal.returns-in_err-reserve-2-clause-cells
returns-in_err-reserve-2-clause-cells c =
    let lies : LiesIn c.args.pool.now c.self.inside.text = subst (λ (b : Stored). LiesIn c.args.pool.now b.text) (sym c.self.view_is) c.requires.lies in
    let more : length c.self.inside.text.blocks ≤ length c.reserve.new.self.blocks = more_blocks c.args.pool.now c.reserve.new.pool c.self.inside.text c.reserve.new.self lies c.in_ok-reserve.ensures.lies c.in_ok-reserve.ensures.characters c.in_ok-reserve.ensures.kept in
    let here : length c.self.inside.text.blocks ≡ length c.args.self.now.text.blocks = ap (λ (b : Stored). length b.text.blocks) c.self.view_is in
    omega (arith, more, here)

pub returns-in_err-splice-clause-cells : goal.returns-in_err-splice-clause-cells
returns-in_err-splice-clause-cells c =
    let lies : LiesIn c.args.pool.now c.self.inside.text = subst (λ (b : Stored). LiesIn c.args.pool.now b.text) (sym c.self.view_is) c.requires.lies in
    let more : length c.self.inside.text.blocks ≤ length c.reserve.new.self.blocks = more_blocks c.args.pool.now c.reserve.new.pool c.self.inside.text c.reserve.new.self lies c.in_ok-reserve.ensures.lies c.in_ok-reserve.ensures.characters c.in_ok-reserve.ensures.kept in
    let here : length c.self.inside.text.blocks ≡ length c.args.self.now.text.blocks = ap (λ (b : Stored). length b.text.blocks) c.self.view_is in
    omega (arith, more, here)

pub returns-clause-cells : goal.returns-clause-cells
returns-clause-cells c =
    let lies : LiesIn c.args.pool.now c.self.inside.text = subst (λ (b : Stored). LiesIn c.args.pool.now b.text) (sym c.self.view_is) c.requires.lies in
    let more : length c.self.inside.text.blocks ≤ length c.reserve.new.self.blocks = more_blocks c.args.pool.now c.reserve.new.pool c.self.inside.text c.reserve.new.self lies c.in_ok-reserve.ensures.lies c.in_ok-reserve.ensures.characters c.in_ok-reserve.ensures.kept in
    let here : length c.self.inside.text.blocks ≡ length c.args.self.now.text.blocks = ap (λ (b : Stored). length b.text.blocks) c.self.view_is in
    omega (arith, more, here, ap length c.put_characters.ensures.blocks)
