use Rattle.std.proofs.Common.{◌≡◌, ◌+◌, ◌-◌, ◌<◌, ◌++◌, ◌∙◌, ap, sym, length, take, drop, append_assoc, length-append, arith}
use Rattle.std.proofs.lemmas.Bool.{eqb-true, eqb-false}
use Rattle.text_model.specs.Decoding.{all_characters}
use Rattle.text_model.specs.Codings.{Utf8Dos, decoded, undecoded}
use Rattle.text_model.proofs.Codings.{undecoded_twice}
use Rattle.utf8_stream.specs.Returns.{return_before}
use Rattle.utf8_stream.proofs.Steps.{cut, cut_length}
use Rattle.utf8_stream.proofs.Tails.{tail_room}
use Rattle.utf8_stream.proofs.Lines.{all_room, last_decoded, line_length, plain_split, return_length, split_decoded, split_length, whole_line}
use Rattle.utf8_stream.proofs.decoding.open_dos.Goals as goal

pub returns-then-is_empty-clause-items : goal.returns-then-is_empty-clause-items
returns-then-is_empty-clause-items c =
    let plain = plain_split c.lines.rest.now c.split_at_return.result.0.now c.split_at_return.result.1.now c.split_at_return.ensures (eqb-true (length c.split_at_return.result.1.now) 0 (sym c.is_empty.ensures ∙ c.if-is_empty.true)) in
    c.open_utf8-part.ensures.items ∙ ap (λ cs. c.lines.out.items ++ cs) (sym plain.0) ∙ c.lines.invariant.items

pub returns-then-is_empty-clause-spare : goal.returns-then-is_empty-clause-spare
returns-then-is_empty-clause-spare c =
    let plain = plain_split c.lines.rest.now c.split_at_return.result.0.now c.split_at_return.result.1.now c.split_at_return.ensures (eqb-true (length c.split_at_return.result.1.now) 0 (sym c.is_empty.ensures ∙ c.if-is_empty.true)) in
    omega (arith, c.open_utf8-part.ensures.spare, ap length plain.0, c.lines.invariant.spare)

pub returns-then-is_empty-clause-tail : goal.returns-then-is_empty-clause-tail
returns-then-is_empty-clause-tail c =
    let plain = plain_split c.lines.rest.now c.split_at_return.result.0.now c.split_at_return.result.1.now c.split_at_return.ensures (eqb-true (length c.split_at_return.result.1.now) 0 (sym c.is_empty.ensures ∙ c.if-is_empty.true)) in
    c.open_utf8-part.ensures.tail ∙ sym plain.1 ∙ c.lines.invariant.tail

pub returns-then-is_empty-clause-closed : goal.returns-then-is_empty-clause-closed
returns-then-is_empty-clause-closed c =
    let rest = c.lines.rest.now in
    let plain = plain_split rest c.split_at_return.result.0.now c.split_at_return.result.1.now c.split_at_return.ensures (eqb-true (length c.split_at_return.result.1.now) 0 (sym c.is_empty.ensures ∙ c.if-is_empty.true)) in
    let same = c.open_utf8-part.ensures.tail ∙ sym plain.1 in
    ap (undecoded Utf8Dos) same ∙ undecoded_twice Utf8Dos rest ∙ sym same

pub put_raw-requires-clause-room : goal.put_raw-requires-clause-room
put_raw-requires-clause-room c =
    let line = c.split_at_return.result.0.now in
    omega (arith, split_length c.lines.rest.now line c.split_at_return.result.1.now c.split_at_return.ensures, tail_room line, c.open_utf8-part.ensures.spare, ap length c.open_utf8-part.ensures.tail, c.lines.invariant.room)

pub returns-then-end-eq1-clause-items : goal.returns-then-end-eq1-clause-items
returns-then-end-eq1-clause-items c =
    let line = c.split_at_return.result.0.now in
    let last = last_decoded c.lines.rest.now line c.split_at_return.result.1.now c.split_at_return.ensures c.if-end-eq1.true in
    whole_line c.lines.out.items c.open_utf8-part.new.out.items c.put_raw.new.out.items line c.open_utf8-part.result.now c.open_utf8-part.ensures.items c.open_utf8-part.ensures.tail c.put_raw.ensures.items
    ∙ ap (λ cs. c.lines.out.items ++ cs) (sym last.0) ∙ c.lines.invariant.items

pub returns-then-end-eq1-clause-spare : goal.returns-then-end-eq1-clause-spare
returns-then-end-eq1-clause-spare c =
    let line = c.split_at_return.result.0.now in
    let last = last_decoded c.lines.rest.now line c.split_at_return.result.1.now c.split_at_return.ensures c.if-end-eq1.true in
    omega (arith, line_length line c.open_utf8-part.result.now c.open_utf8-part.ensures.tail, c.open_utf8-part.ensures.spare, c.put_raw.ensures.spare, ap length last.0, c.lines.invariant.spare)

pub returns-then-end-eq1-clause-tail : goal.returns-then-end-eq1-clause-tail
returns-then-end-eq1-clause-tail c =
    let last = last_decoded c.lines.rest.now c.split_at_return.result.0.now c.split_at_return.result.1.now c.split_at_return.ensures c.if-end-eq1.true in
    sym last.1 ∙ c.lines.invariant.tail

pub put_unless_feed-requires : goal.put_unless_feed-requires
put_unless_feed-requires c =
    let line = c.split_at_return.result.0.now in
    let split = split_length c.lines.rest.now line c.split_at_return.result.1.now c.split_at_return.ensures in
    omega (arith, split, eqb-false (length c.split_at_return.result.1.now) 0 (sym c.is_empty.ensures ∙ c.if-is_empty.false), all_room line, line_length line c.open_utf8-part.result.now c.open_utf8-part.ensures.tail, c.open_utf8-part.ensures.spare, c.put_raw.ensures.spare, c.lines.invariant.room)

pub lines-preserved : goal.lines-preserved
lines-preserved c =
    let x = c.lines.rest.now in
    let line = c.split_at_return.result.0.now in
    let end = c.split_at_return.result.1.now in
    let y = take (length end - 1) (drop 1 end) in
    let split = split_length x line end c.split_at_return.ensures in
    let shorter : length y ≡ length end - 1 = cut_length 1 end in
    let more : 0 < length y = omega (arith, shorter, eqb-false (length c.split_at_return.result.1.now) 0 (sym c.is_empty.ensures ∙ c.if-is_empty.false), c.if-end-eq1.false) in
    let step = split_decoded x line end c.split_at_return.ensures y (cut 1 end) more in
    let put = whole_line c.lines.out.items c.open_utf8-part.new.out.items c.put_raw.new.out.items line c.open_utf8-part.result.now c.open_utf8-part.ensures.items c.open_utf8-part.ensures.tail c.put_raw.ensures.items in
    let long = line_length line c.open_utf8-part.result.now c.open_utf8-part.ensures.tail in
    let count : length (decoded Utf8Dos x) ≡ length (all_characters line) + (length (return_before y) + length (decoded Utf8Dos y)) =
    ap length step.0 ∙ length-append (all_characters line) (return_before y ++ decoded Utf8Dos y) ∙ ap (λ n. length (all_characters line) + n) (length-append (return_before y) (decoded Utf8Dos y)) in
    record {
      items = ap (λ cs. cs ++ decoded Utf8Dos y) c.put_unless_feed.ensures.items ∙ append_assoc c.put_raw.new.out.items (return_before y) (decoded Utf8Dos y)
          ∙ ap (λ cs. cs ++ (return_before y ++ decoded Utf8Dos y)) put ∙ append_assoc c.lines.out.items (all_characters line) (return_before y ++ decoded Utf8Dos y)
          ∙ ap (λ cs. c.lines.out.items ++ cs) (sym step.0) ∙ c.lines.invariant.items;
      spare = omega (arith, count, long, c.open_utf8-part.ensures.spare, c.put_raw.ensures.spare, c.put_unless_feed.ensures.spare, c.lines.invariant.spare);
      room = omega (arith, shorter, split, eqb-false (length c.split_at_return.result.1.now) 0 (sym c.is_empty.ensures ∙ c.if-is_empty.false), all_room line, long, return_length y, c.open_utf8-part.ensures.spare, c.put_raw.ensures.spare, c.put_unless_feed.ensures.spare, c.lines.invariant.room);
      tail = sym step.1 ∙ c.lines.invariant.tail;
    }
