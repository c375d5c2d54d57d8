-- A session whose last child lives: what each answer of that child leads to.
use Rattle.std.proofs.Common.{◌≡◌, inl, inr, ℕ, zero, suc, ◌+◌, ◌<◌, ◌≤◌, Bool, true, false, ◌||◌, not, List, [], ◌∷◌, ◌++◌, length, map, refl, sym, ap, ◌∙◌, subst, arith, append-nil, append_assoc}
use Rattle.std.proofs.Math.Seq.{drop-append_seam}
use Rattle.std.proofs.lemmas.List.Folds.{list_any-append}
use Rattle.std.specs.Prelude.{pos, negsuc, Option, Some, codes, nat_lt, if◌then◌else◌}
use Rattle.std.proofs.lemmas.Bool.{ltb-true}
use Rattle.text_model.specs.Characters.{Ch, Scalar}
use Rattle.text_model.specs.Properties.{bare}
use Rattle.text_model.specs.Codings.{Utf8, decoded, undecoded, all_decoded}
use Rattle.text_model.proofs.Codings.{decoded_law, all_decoded_law}
use Rattle.editor_model.specs.Values.{Value, Str, TheProcess, Forms}
use Rattle.editor_model.specs.Limits.{longest_text}
use Rattle.plain_machine.specs.Exchanges.{Ask, Read, AskEnd, Answer, Bytes, Code, Exchange}
use Rattle.plain_machine.specs.Exchanges as exchanges
use Rattle.plain_machine.specs.State.{State, Process, Program, Status, Exited, Signalled, Lost, Off, change_process, read_so_far}
use Rattle.plain_machine.specs.Arguments.{runs}
use Rattle.plain_machine.specs.Items.{Item, Top, Enter, Wait, Waiting, Nowhere, Config, Next}
use Rattle.plain_machine.specs.Lines.{OfSentinel}
use Rattle.plain_machine.specs.Calls.{silent, with_filter}
use Rattle.plain_machine.specs.Handling.{unlisted}
use Rattle.plain_machine.specs.Run.{Reaches, stays}
use Rattle.plain_machine.specs.Waits.{more_characters, entry_of, asked_more, counts, is_room, hear, read_answer, end_answer, exit_text}
use Rattle.machine_laws.specs.Children.{is_kill}
use Rattle.machine_laws.proofs.Basics.{is_same, or_right, and_right}
use Rattle.line_session.specs.Handlers.{is_finished}
use Rattle.line_session.specs.Lines.{is_open, session_lines}
use Rattle.line_session.specs.Script.{sentinel_name}
use Rattle.session_laws.specs.Standing.{Parts, session_program, outside}
use Rattle.session_laws.specs.Sessions.{session_command, is_spawn, fails, has_failed}
use Rattle.session_laws.proofs.Waiting.{IsWaits, AtWait, in_wait, Asked, reads, asks_end}
use Rattle.session_laws.proofs.Lined.{heard_by, feed_behind, closed_by, lines_by}
use Rattle.session_laws.proofs.Lasting.{AllOld, all_old_more, only_last, lines_last, open_behind, lines_closed}
use Rattle.session_laws.proofs.Living.{Child, living, with_last, change_last, Filled, went_in, was_stopped, Fills, fills}
use Rattle.session_laws.proofs.Dying.{ended, restarts, AfterEnd, is_done, starts_again_there, Ends, sentinel_ends}
use Rattle.session_laws.proofs.Dying as dying
use Rattle.session_laws.proofs.Restarting.{asked_once}
use Rattle.session_laws.proofs.Held.{Counts, counts_still, starts_by, Quiet, all_quiet, stopped_quiet, waits, starts_more, Comes}

-- NEW CHARACTERS
grown : (old new rest : List Ch) → new ≡ old ++ rest → new ≡ old ++ more_characters old new
grown old new rest e = sym (rw e (ap (λ t. old ++ t) (drop-append_seam old rest)))

heard_more : (bytes more : List ℕ) → decoded Utf8 (bytes ++ more) ≡ decoded Utf8 bytes ++ more_characters (decoded Utf8 bytes) (decoded Utf8 (bytes ++ more))
heard_more bytes more = grown (decoded Utf8 bytes) (decoded Utf8 (bytes ++ more)) (decoded Utf8 (undecoded Utf8 bytes ++ more)) (decoded_law Utf8 bytes more)

heard_all : (bytes : List ℕ) → all_decoded Utf8 bytes ≡ decoded Utf8 bytes ++ more_characters (decoded Utf8 bytes) (all_decoded Utf8 bytes)
heard_all bytes =
    grown (decoded Utf8 bytes) (all_decoded Utf8 bytes) (all_decoded Utf8 (undecoded Utf8 bytes))
    (ap (all_decoded Utf8) (sym (append-nil bytes)) ∙ (all_decoded_law Utf8 bytes [] ∙ ap (λ t. decoded Utf8 bytes ++ all_decoded Utf8 t) (append-nil (undecoded Utf8 bytes))))

failed_now : (child : ℕ) (before : List Exchange) (x : Exchange) → fails child x.ask x.answer ≡ true → has_failed child (before ++ x ∷ []) ≡ true
failed_now child before x h = list_any-append (λ x. fails child x.ask x.answer) before (x ∷ []) ∙ or_right (has_failed child before) _ (ap (λ b. b || false) h)

module _ (limit : ℕ) (words : List Value) (bound : ℕ) (before : List Exchange) (parts : Parts) (olds : List Process) (k : Child) (old : AllOld olds) (text : parts.text ≡ lines_by olds ++ heard_by (living k)) (fits : length parts.text ≤ longest_text)
    (starts : Counts limit before (length olds)) (lines : session_lines before ≡ parts.text) where
  abbrev p : ℕ
  p = length olds

  abbrev command : List Value
  command = session_command words

  abbrev program : Program
  program = session_program limit command

  abbrev s : State
  s = outside (with_last parts olds (living k))

  abbrev once : Parts
  once = asked_once parts

  abbrev ComesTo : Exchange → Config → Type 0
  ComesTo x c = Comes limit words bound (before ++ x ∷ []) c

  -- another way to write where it stands
  moved : (x : Exchange) (m n : Next) → m ≡ n → ComesTo x m.config → ComesTo x n.config
  moved x m n e h = subst (λ (n : Next). ComesTo x n.config) e h

  stated : (x : Exchange) (u t : State) (work : List Item) → u ≡ t → ComesTo x (record { state = t; work = work }) → ComesTo x (record { state = u; work = work })
  stated x u t work e h = subst (λ u. ComesTo x (record { state = u; work = work })) (sym e) h

  -- nothing new
  still : (x : Exchange) (rest : List Item) → AtWait rest → is_spawn x.ask ≡ false → is_kill x.ask ≡ false → ComesTo x (record { state = outside (with_last once olds (living k)); work = rest })
  still x rest at spawn kill = record {
    said = [];
    there = _;
    way = stays;
    shape = waits (outside (with_last once olds (living k))) rest refl at
        (inl (record { parts = once; olds = olds; child = k; is = refl; old = old; text = text; fits = fits; counts = counts_still limit before (length olds) x starts spawn kill }));
  }

  -- the next number is within the limit
  below : nat_lt p limit ≡ true → length olds + 1 ≤ limit
  below h = omega (arith, ltb-true p limit h)

  -- A PIECE
  hears_piece : (x : Exchange) (l : Child) (piece : List Ch) (rest : List Item) → AtWait rest → is_spawn x.ask ≡ false → is_kill x.ask ≡ false → heard_by (living l) ≡ heard_by (living k) ++ piece →
      ComesTo x (record { state = outside (with_last once olds (living l)); work = entry_of s p (living k) piece rest })
  hears_piece x l piece rest at spawn kill heard = by f.after f.way f.filled
    where
      f : Fills program bound once olds l piece s (living k) rest
      f = fills limit command bound once olds l fits s k piece rest

      more : Counts limit (before ++ x ∷ []) (length olds)
      more = counts_still limit before (length olds) x starts spawn kill

      whole : parts.text ++ piece ≡ lines_by olds ++ heard_by (living l)
      whole = ap (λ l. l ++ piece) text ∙ append_assoc (lines_by olds) (heard_by (living k)) piece ∙ ap (λ t. lines_by olds ++ t) (sym heard)

      by : (after : State) → Reaches program bound (record { state = outside (with_last once olds (living l)); work = entry_of s p (living k) piece rest }) [] f.said (record { state = after; work = rest }) → Filled once olds l piece after →
          ComesTo x (record { state = outside (with_last once olds (living l)); work = entry_of s p (living k) piece rest })
      by after way (went_in behind e t small) = record {
        said = f.said;
        there = _;
        way = way;
        shape = waits after rest refl at (inl (record { parts = behind; olds = olds; child = l; is = e; old = old; text = t ∙ whole; fits = small; counts = more }));
      }
      by after way (was_stopped behind e t over) =
          let lacks : lines_by (olds ++ with_filter Off (living l) ∷ []) ≡ behind.text ++ piece =
          lines_last olds (with_filter Off (living l)) ∙ ap (λ t. lines_by olds ++ t) (append-nil (heard_by (living l))) ∙ sym whole ∙ ap (λ l. l ++ piece) (sym t) in
          let quiet : Quiet limit (before ++ x ∷ []) (outside (with_last behind olds (with_filter Off (living l)))) =
          stopped_quiet limit before x behind olds (with_filter Off (living l)) old refl (lines ∙ sym t) (subst (λ (l : List Ch). length l ≤ longest_text) (sym t) fits) piece lacks
          (subst (λ (l : List Ch). longest_text < length (l ++ piece)) (sym t) over) more.none (starts_by limit (before ++ x ∷ []) (length olds) more) in
          record { said = f.said; there = _; way = way; shape = waits after rest refl at (inr (subst (λ u. Quiet limit (before ++ x ∷ []) u) (sym e) quiet)) }

  -- A READ
  abbrev bytes : List ℕ
  bytes = read_so_far (living k)

  abbrev reading : (answer : Answer) → Exchange
  reading answer = record { ask = Read k.child; answer = answer }

  drains : (answer : Answer) (w : Waiting) (forms : Forms) (n : Next) → IsWaits forms → k.drained ≡ false →
      silent (change_process p (λ y. record y { drained = true }) (asked_more s)) (entry_of s p (living k) (more_characters (decoded Utf8 bytes) (all_decoded Utf8 bytes)) (Wait w Nowhere ∷ Top forms ∷ [])) ≡ n → ComesTo (reading answer) n.config
  drains answer w forms n only drained e =
      let x : Exchange = reading answer in
      let l : Child = record k { drained = true } in
      let rest : List Item = Wait w Nowhere ∷ Top forms ∷ [] in
      let work : List Item = entry_of s p (living k) (more_characters (decoded Utf8 bytes) (all_decoded Utf8 bytes)) rest in
      let heard : heard_by (living l) ≡ heard_by (living k) ++ more_characters (decoded Utf8 bytes) (all_decoded Utf8 bytes) =
      heard_all bytes ∙ ap (λ b. (if b then all_decoded Utf8 bytes else decoded Utf8 bytes) ++ more_characters (decoded Utf8 bytes) (all_decoded Utf8 bytes)) (sym drained) in
      moved x _ n e (stated x _ _ work (change_last once olds (living k) (λ y. record y { drained = true })) (hears_piece x l _ rest (in_wait w forms only refl) refl refl heard))

  read_by : (answer : Answer) (w : Waiting) (forms : Forms) (n : Next) → IsWaits forms → k.drained ≡ false → read_answer s w Nowhere (Top forms ∷ []) p (living k) answer ≡ Some n → ComesTo (reading answer) n.config
  read_by (Bytes more) w forms n only drained e = by (is_room more) e
    where
      by : (b : Bool) → hear b s w Nowhere (Top forms ∷ []) p (living k) more ≡ Some n → ComesTo (reading (Bytes more)) n.config
      by false e = absurd (let k = e in cc)
      by true e =
          let x : Exchange = reading (Bytes more) in
          let l : Child = record k { bytes = Some (bytes ++ more) } in
          let rest : List Item = Wait (record w { counted = w.counted || counts w p }) Nowhere ∷ Top forms ∷ [] in
          let piece : List Ch = more_characters (decoded Utf8 bytes) (decoded Utf8 (bytes ++ more)) in
          let one : silent (change_process p (λ y. record y { bytes = Some (bytes ++ more) }) (asked_more s)) (entry_of s p (living k) piece rest) ≡ n = let k = e in cc in
          let heard : heard_by (living l) ≡ heard_by (living k) ++ piece =
          ap (λ b. if b then all_decoded Utf8 (bytes ++ more) else decoded Utf8 (bytes ++ more)) drained ∙ heard_more bytes more ∙ ap (λ b. (if b then all_decoded Utf8 bytes else decoded Utf8 bytes) ++ piece) (sym drained) in
          moved x _ n one (stated x _ _ (entry_of s p (living k) piece rest) (change_last once olds (living k) (λ y. record y { bytes = Some (bytes ++ more) })) (hears_piece x l piece rest (in_wait (record w { counted = w.counted || counts w p }) forms only refl) refl refl heard))
  read_by exchanges.Nothing w forms n only drained e =
      let one : silent (asked_more s) (Wait w Nowhere ∷ Top forms ∷ []) ≡ n = let k = e in cc in
      moved (reading exchanges.Nothing) _ n one (still (reading exchanges.Nothing) (Wait w Nowhere ∷ Top forms ∷ []) (in_wait w forms only refl) refl refl)
  read_by exchanges.End w forms n only drained e = drains exchanges.End w forms n only drained (let k = e in cc)
  read_by exchanges.Failed w forms n only drained e = drains exchanges.Failed w forms n only drained (let k = e in cc)
  read_by _ w forms n only drained e = absurd (let k = e in cc)

  -- AN END
  -- the lines are closed then
  closed_is : (y : Process) → closed_by y ≡ heard_by (living k) ++ feed_behind true (heard_by (living k)) → lines_by (olds ++ y ∷ []) ≡ parts.text ++ feed_behind true parts.text
  closed_is y e =
      let alike : is_open parts.text ≡ is_open (heard_by (living k)) = ap is_open text ∙ open_behind (lines_by olds) (heard_by (living k)) (lines_closed olds old) in
      lines_last olds y ∙ ap (λ t. lines_by olds ++ t) e ∙ sym (append_assoc (lines_by olds) (heard_by (living k)) (feed_behind true (heard_by (living k))))
      ∙ ap (λ t. t ++ feed_behind true (heard_by (living k))) (sym text) ∙ ap (λ b. parts.text ++ (if b then Scalar 10 ∷ [] else [])) (sym alike)

  closed_dead : (status : Status) → runs status ≡ false → heard_by (living k) ++ feed_behind (not (runs status)) (heard_by (living k)) ≡ heard_by (living k) ++ feed_behind true (heard_by (living k))
  closed_dead status dead = ap (λ b. heard_by (living k) ++ feed_behind (not b) (heard_by (living k))) dead

  abbrev entering : Status → (how : Value) → List Item → Config
  entering status how rest = record { state = outside (with_last once olds (ended k status)); work = Enter (OfSentinel p) (Some sentinel_name) (TheProcess p ∷ how ∷ []) ∷ rest }

  ends_by : (x : Exchange) (status : Status) (how : Value) (rest : List Item) → AtWait rest → is_spawn x.ask ≡ false → is_kill x.ask ≡ false → runs status ≡ false → (restarts limit p how ≡ true → has_failed k.child (before ++ x ∷ []) ≡ true) →
      ComesTo x (entering status how rest)
  ends_by x status how rest at spawn kill dead failed = by e.to e.way e.after
    where
      e : Ends limit command bound once olds k status how fits rest
      e = sentinel_ends limit command bound once olds k status how fits rest

      more : Counts limit (before ++ x ∷ []) (length olds)
      more = counts_still limit before (length olds) x starts spawn kill

      by : (c : Config) → Reaches program bound (entering status how rest) [] e.said c → AfterEnd limit command bound once olds k status how fits rest c → ComesTo x (entering status how rest)
      by c way (is_done behind q t small) =
          let lines_end : behind.text ≡ lines_by (olds ++ unlisted (ended k status) ∷ []) = t ∙ sym (closed_is (unlisted (ended k status)) (closed_dead status dead)) in
          let quiet : Quiet limit (before ++ x ∷ []) (outside (with_last behind olds (unlisted (ended k status)))) =
          all_quiet limit (before ++ x ∷ []) behind olds (unlisted (ended k status)) (all_old_more olds (unlisted (ended k status)) old (record { ended = dead; goes_on = refl })) old refl lines_end small more.none (starts_by limit (before ++ x ∷ []) (length olds) more) in
          record { said = e.said; there = c; way = way; shape = waits (outside (with_last behind olds (unlisted (ended k status)))) rest q at (inr quiet) }
      by c way (dying.was_stopped behind q t over) =
          let y : Process = unlisted (with_filter Off (ended k status)) in
          let piece : List Ch = feed_behind true parts.text in
          let lacks : lines_by (olds ++ y ∷ []) ≡ behind.text ++ piece = closed_is y (closed_dead status dead) ∙ ap (λ l. l ++ piece) (sym t) in
          let quiet : Quiet limit (before ++ x ∷ []) (outside (with_last behind olds y)) =
          stopped_quiet limit before x behind olds y old refl (lines ∙ sym t) (subst (λ (l : List Ch). length l ≤ longest_text) (sym t) fits) piece lacks
          (subst (λ (l : List Ch). longest_text < length (l ++ piece)) (sym t) over) more.none (starts_by limit (before ++ x ∷ []) (length olds) more) in
          record { said = e.said; there = c; way = way; shape = waits (outside (with_last behind olds y)) rest q at (inr quiet) }
      by c way (starts_again_there behind base based again q t small) = record {
        said = e.said;
        there = c;
        way = way;
        shape = starts_more
            (record {
              parts = behind;
              olds = olds;
              child = k;
              status = status;
              how = how;
              base = base;
              based = based;
              more = again;
              rest = rest;
              at = at;
              dead = dead;
              old = old;
              text = t ∙ sym (closed_is (ended k status) (closed_dead status dead));
              fits = small;
              counts = more;
              few = below (and_right (not (is_finished how)) (nat_lt p limit) again);
              failed = failed again;
            }) q;
      }

  abbrev asking_end : (answer : Answer) → Exchange
  asking_end answer = record { ask = AskEnd k.child; answer = answer }

  ended_by : (answer : Answer) (status : Status) (words_of : List ℕ) (w : Waiting) (forms : Forms) (n : Next) → IsWaits forms → runs status ≡ false →
      (restarts limit p (Str (bare (map Scalar words_of))) ≡ true → fails k.child (AskEnd k.child) answer ≡ true) →
      silent (change_process p (λ y. record y { status = status }) (asked_more s)) (Enter (OfSentinel p) (Some sentinel_name) (TheProcess p ∷ Str (bare (map Scalar words_of)) ∷ []) ∷ Wait w Nowhere ∷ Top forms ∷ []) ≡ n → ComesTo (asking_end answer) n.config
  ended_by answer status words_of w forms n only dead failed e =
      let x : Exchange = asking_end answer in
      let how : Value = Str (bare (map Scalar words_of)) in
      let rest : List Item = Wait w Nowhere ∷ Top forms ∷ [] in
      moved x _ n e (stated x _ _ (Enter (OfSentinel p) (Some sentinel_name) (TheProcess p ∷ how ∷ []) ∷ rest) (change_last once olds (living k) (λ y. record y { status = status }))
      (ends_by x status how rest (in_wait w forms only refl) refl refl dead (λ again. failed_now k.child before x (failed again))))

  end_by : (answer : Answer) (w : Waiting) (forms : Forms) (n : Next) → IsWaits forms → end_answer s w Nowhere (Top forms ∷ []) p (living k) answer ≡ Some n → ComesTo (asking_end answer) n.config
  end_by (Code (pos zero)) w forms n only e = ended_by (Code (pos zero)) (Exited (pos zero)) (exit_text (pos zero)) w forms n only refl (λ again. absurd (let never : false ≡ true = again in cc)) (let k = e in cc)
  end_by (Code (pos (suc i))) w forms n only e = ended_by (Code (pos (suc i))) (Exited (pos (suc i))) (exit_text (pos (suc i))) w forms n only refl (λ again. is_same k.child k.child refl) (let k = e in cc)
  end_by (Code (negsuc i)) w forms n only e = ended_by (Code (negsuc i)) (Exited (negsuc i)) (exit_text (negsuc i)) w forms n only refl (λ again. is_same k.child k.child refl) (let k = e in cc)
  end_by exchanges.Signal w forms n only e = ended_by exchanges.Signal Signalled (codes "killed\n") w forms n only refl (λ again. is_same k.child k.child refl) (let k = e in cc)
  end_by exchanges.Failed w forms n only e = ended_by exchanges.Failed Lost (codes "failed\n") w forms n only refl (λ again. is_same k.child k.child refl) (let k = e in cc)
  end_by exchanges.Running w forms n only e =
      let one : silent (asked_more s) (Wait w Nowhere ∷ Top forms ∷ []) ≡ n = let k = e in cc in
      moved (asking_end exchanges.Running) _ n one (still (asking_end exchanges.Running) (Wait w Nowhere ∷ Top forms ∷ []) (in_wait w forms only refl) refl refl)
  end_by _ w forms n only e = absurd (let k = e in cc)

  -- EACH ANSWER
  pub live_asks : (ask : Ask) (answer : Answer) (next : Answer → Option Next) (n : Next) → Asked s ask next → next answer ≡ Some n → ComesTo (record { ask = ask; answer = answer }) n.config
  live_asks ask answer next n (reads w forms q y only there live heard drained asks goes_on) e =
      let last = only_last olds (living k) y q old there live in
      let same : ask ≡ Read k.child = asks ∙ ap (λ (z : Process). Read z.child) last.1 in
      let step : read_answer s w Nowhere (Top forms ∷ []) p (living k) answer ≡ Some n = (λ i. read_answer s w Nowhere (Top forms ∷ []) (sym last.0 i) (sym last.1 i) answer) ∙ ap (λ f. f answer) (sym goes_on) ∙ e in
      subst (λ a. ComesTo (record { ask = a; answer = answer }) n.config) (sym same) (read_by answer w forms n only (ap (λ (z : Process). z.drained) (sym last.1) ∙ drained) step)
  live_asks ask answer next n (asks_end w forms q y only there live heard drained asks goes_on) e =
      let last = only_last olds (living k) y q old there live in
      let same : ask ≡ AskEnd k.child = asks ∙ ap (λ (z : Process). AskEnd z.child) last.1 in
      let step : end_answer s w Nowhere (Top forms ∷ []) p (living k) answer ≡ Some n = (λ i. end_answer s w Nowhere (Top forms ∷ []) (sym last.0 i) (sym last.1 i) answer) ∙ ap (λ f. f answer) (sym goes_on) ∙ e in
      subst (λ a. ComesTo (record { ask = a; answer = answer }) n.config) (sym same) (end_by answer w forms n only step)
