-- Calls that make one exchange: sending, closing an input, starting a process.
use Rattle.std.proofs.Common.{◌≡◌, ℕ, Bool, true, false, List, [], ◌∷◌, ◌++◌, length, refl, ap, sym, ◌∙◌, subst, arith, length-append}
use Rattle.std.specs.Prelude.{Some}
use Rattle.std.proofs.lemmas.List.{length-map}
use Rattle.editor_model.specs.Values.{Value, Nil, TheProcess, Reply, Answered, Refused, BrokenPipe, SpawnFailed, StartProcess, ProcessSendString, ProcessSendEof}
use Rattle.editor_model.specs.Arguments.{arg}
use Rattle.plain_machine.specs.Exchanges.{Ask, Spawn, Send, Close, Started, Closed}
use Rattle.plain_machine.specs.Exchanges as model
use Rattle.plain_machine.specs.State.{State, Program, change_process}
use Rattle.plain_machine.specs.Arguments.{process_of, child_of, is_closed}
use Rattle.plain_machine.specs.Items.{Item, MakeCall, GiveAnswer, Refuse, Target, Asks}
use Rattle.plain_machine.specs.Calls.{silent, send, sent_answer, send_eof, closed_answer, spawned, spawned_child, started, with_input_closed}
use Rattle.plain_machine.specs.Step.{step}
use Rattle.plain_machine.specs.Run.{stays, goes}
use Rattle.process_table.specs.Table.{kept}
use Rattle.host_link.specs.Hosts.{send_answer}
use Rattle.host_link.specs.declared.host.SendAnswer.{SendAnswer}
use Rattle.host_link.specs.declared.host.SendAnswer.TheVariants as sent
use Rattle.kernel_steps.specs.Outside.{deepest, Past, outside}
use Rattle.plain_machine.specs.Waits.{asked_more}
use Rattle.kernel_steps.specs.Processes.{counted, bytes_of, words_of}
use Rattle.kernel_steps.specs.Waits.{Passes}
use Rattle.kernel_steps.specs.Work.{working, at_item, reply_item}
use Rattle.kernel_steps.specs.Worlds.{World, Stands, Hosted, Keeps, kept_state}
use Rattle.kernel_steps.proofs.Hosting.{input_mild, changed_kept, changed_hosted, changed_length, changed_depth, changed_inhibited, changed_asked}
use Rattle.kernel_steps.proofs.Journeys.{AddsOne}
use Rattle.kernel_steps.proofs.KeptProcesses.{process_of_kept, child_kept, closed_kept, process_alike}
use Rattle.kernel_steps.proofs.Launching.{started_kept, started_size, next_is_new, hosted_started}
use Rattle.kernel_steps.proofs.Waiting.{effect_step}
use Rattle.kernel_steps.proofs.Works.{Went, went_silently, went_asked}

module _ (program : Program) (w : World) (args : List Value) (target : Target) where
  child_alike : (s : State) → Stands w.state s → child_of w.state (process_of w.state (arg args 0)) ≡ child_of s (process_of s (arg args 0))
  child_alike s h = ap (λ (t : State). child_of t (process_of t (arg args 0))) h ∙ ap (child_of (kept_state s)) (process_of_kept s (arg args 0)) ∙ child_kept s (process_of s (arg args 0))

  closed_alike : (s : State) → Stands w.state s → is_closed w.state (process_of w.state (arg args 0)) ≡ is_closed s (process_of s (arg args 0))
  closed_alike s h = ap (λ (t : State). is_closed t (process_of t (arg args 0))) h ∙ ap (is_closed (kept_state s)) (process_of_kept s (arg args 0)) ∙ closed_kept s (process_of s (arg args 0))

  module _ (known : State) (kills : List Bool) (past : Past) where
    abbrev pub then : World
    then = record { state = known; kills = kills; outside = outside w.outside.sink past }

  -- SENDING
  pub nothing_went : Passes program w.state ProcessSendString args → bytes_of (arg args 1) ≡ [] → Went program w w (at_item (MakeCall ProcessSendString args target)) (at_item (reply_item (Answered Nil) target))
  nothing_went passes none = went_silently program w w.state (λ s. s) (at_item (MakeCall ProcessSendString args target)) (at_item (GiveAnswer Nil target)) (λ s h. h)
      (λ s rest h. goes (effect_step program w ProcessSendString args target refl passes s rest h ∙ ap (send s target rest (child_of s (process_of s (arg args 0)))) none) stays)

  send_steps : (bytes : List ℕ) → (bytes ≡ [] → ⊥) → (s : State) (rest : List Item) (child : ℕ) → send s target rest child bytes ≡ Asks (Send child bytes) (sent_answer s target rest (length bytes))
  send_steps [] some s rest child = absurd (some refl)
  send_steps (b ∷ bytes) some s rest child = refl

  abbrev pub sent_reply : SendAnswer → Reply
  sent_reply sent.Sent = Answered Nil
  sent_reply sent.Broken = Refused BrokenPipe

  pub sent_went : (bytes : List ℕ) (child : ℕ) (a : SendAnswer) (known : State) (kills : List Bool) (past : Past) → Passes program w.state ProcessSendString args → bytes ≡ bytes_of (arg args 1) → (bytes ≡ [] → ⊥) → child ≡ child_of w.state (process_of w.state (arg args 0)) →
      known ≡ counted (length bytes) w.state → AddsOne w.outside.past past (Send child bytes) (send_answer a) → Went program w (then known kills past) (at_item (MakeCall ProcessSendString args target)) (at_item (reply_item (sent_reply a) target))
  sent_went bytes child a known kills past passes is some number now exchange =
      went_asked program w known kills past (Send child bytes) (send_answer a) (counted (length bytes)) (at_item (MakeCall ProcessSendString args target)) (at_item (reply_item (sent_reply a) target)) exchange (λ s h. now ∙ ap (counted (length bytes)) h)
      (λ s rest h. record {
        next = sent_answer s target rest (length bytes);
        steps = effect_step program w ProcessSendString args target refl passes s rest h ∙ ap (λ l. send s target rest (child_of s (process_of s (arg args 0))) l) (sym is) ∙ ap (λ c. send s target rest c bytes) (sym (number ∙ child_alike s h)) ∙ send_steps bytes some s rest child;
        answers = by a s rest;
      })
    where
      by : (a : SendAnswer) (s : State) (rest : List Item) → sent_answer s target rest (length bytes) (send_answer a) ≡ Some (silent (counted (length bytes) s) (reply_item (sent_reply a) target ∷ rest))
      by sent.Sent s rest = refl
      by sent.Broken s rest = refl

  pub counted_keeps : (n : ℕ) (known : State) (kills : List Bool) (past : Past) → known ≡ counted n w.state → kills ≡ w.kills → Hosted w.state.processes w.kills → Keeps w (then known kills past)
  counted_keeps n known kills past now same hosted = record {
    hosted = subst (λ k. Hosted known.processes k) (sym same) (subst (λ (t : State). Hosted t.processes w.kills) (sym now) hosted);
    count = omega (arith, ap length same, ap (λ (t : State). length t.processes) now);
    depth = ap (λ (t : State). t.depth) now;
    inhibited = ap (λ (t : State). t.inhibited) now;
    asked = omega (arith, ap (λ (t : State). t.asked) now);
  }

  pub asked_keeps : (known : State) (kills : List Bool) (past : Past) → known ≡ asked_more w.state → kills ≡ w.kills → Hosted w.state.processes w.kills → Keeps w (then known kills past)
  asked_keeps known kills past now same hosted = record {
    hosted = subst (λ k. Hosted known.processes k) (sym same) (subst (λ (t : State). Hosted t.processes w.kills) (sym now) hosted);
    count = omega (arith, ap length same, ap (λ (t : State). length t.processes) now);
    depth = ap (λ (t : State). t.depth) now;
    inhibited = ap (λ (t : State). t.inhibited) now;
    asked = omega (arith, ap (λ (t : State). t.asked) now);
  }

  -- CLOSING
  eof_step : (s : State) (rest : List Item) (p : ℕ) (b : Bool) → Passes program w.state ProcessSendEof args → Stands w.state s → p ≡ process_of w.state (arg args 0) → is_closed w.state (process_of w.state (arg args 0)) ≡ b →
      step program deepest (working s (MakeCall ProcessSendEof args target ∷ rest)) ≡ send_eof s target rest p b
  eof_step s rest p b passes h is closed =
      effect_step program w ProcessSendEof args target refl passes s rest h ∙ ap (λ b. send_eof s target rest (process_of s (arg args 0)) b) (sym (closed_alike s h) ∙ closed) ∙
      ap (λ q. send_eof s target rest q b) (sym (is ∙ process_alike w.state s (arg args 0) h))

  pub closed_went : (p : ℕ) → Passes program w.state ProcessSendEof args → p ≡ process_of w.state (arg args 0) → is_closed w.state (process_of w.state (arg args 0)) ≡ true → Went program w w (at_item (MakeCall ProcessSendEof args target)) (at_item (reply_item (Answered (TheProcess p)) target))
  closed_went p passes is closed = went_silently program w w.state (λ s. s) (at_item (MakeCall ProcessSendEof args target)) (at_item (GiveAnswer (TheProcess p) target)) (λ s h. h) (λ s rest h. goes (eof_step s rest p true passes h is closed) stays)

  abbrev pub input_closed : ℕ → State → State
  input_closed p s = change_process p with_input_closed (asked_more s)

  pub closes_went : (p child : ℕ) (known : State) (kills : List Bool) (past : Past) → Passes program w.state ProcessSendEof args → p ≡ process_of w.state (arg args 0) → is_closed w.state (process_of w.state (arg args 0)) ≡ false → child ≡ child_of w.state p →
      known ≡ input_closed p w.state → AddsOne w.outside.past past (Close child) Closed → Went program w (then known kills past) (at_item (MakeCall ProcessSendEof args target)) (at_item (reply_item (Answered (TheProcess p)) target))
  closes_went p child known kills past passes is unclosed number now exchange =
      went_asked program w known kills past (Close child) Closed (input_closed p) (at_item (MakeCall ProcessSendEof args target)) (at_item (GiveAnswer (TheProcess p) target)) exchange
      (λ s h. now ∙ ap (input_closed p) h ∙ changed_kept with_input_closed input_mild p (asked_more s))
      (λ s rest h. record {
        next = closed_answer s target rest p;
        steps = eof_step s rest p false passes h is unclosed ∙ ap (λ c. Asks (Close c) (closed_answer s target rest p)) (ap (child_of s) (is ∙ process_alike w.state s (arg args 0) h) ∙ sym (child_alike s h) ∙ ap (child_of w.state) (sym is) ∙ sym number);
        answers = refl;
      })

  pub closed_keeps : (p : ℕ) (known : State) (kills : List Bool) (past : Past) → known ≡ input_closed p w.state → kills ≡ w.kills → Hosted w.state.processes w.kills → Keeps w (then known kills past)
  closed_keeps p known kills past now same hosted =
      let t = asked_more w.state in record {
        hosted = subst (λ k. Hosted known.processes k) (sym same) (subst (λ (t : State). Hosted t.processes w.kills) (sym now) (changed_hosted with_input_closed input_mild p t w.kills hosted));
        count = omega (arith, ap length same, ap (λ (t : State). length t.processes) now, changed_length with_input_closed input_mild p t);
        depth = ap (λ (t : State). t.depth) now ∙ changed_depth with_input_closed input_mild p t;
        inhibited = ap (λ (t : State). t.inhibited) now ∙ changed_inhibited with_input_closed input_mild p t;
        asked = omega (arith, ap (λ (t : State). t.asked) now, changed_asked with_input_closed input_mild p t);
      }

  -- STARTING
  abbrev start_ask : Ask
  start_ask = Spawn (bytes_of (arg args 2)) (words_of args)

  pub refused_start : (known : State) (kills : List Bool) (past : Past) → Passes program w.state StartProcess args → known ≡ asked_more w.state → AddsOne w.outside.past past (Spawn (bytes_of (arg args 2)) (words_of args)) model.Refused →
      Went program w (then known kills past) (at_item (MakeCall StartProcess args target)) (at_item (Refuse SpawnFailed))
  refused_start known kills past passes now exchange =
      went_asked program w known kills past start_ask model.Refused asked_more (at_item (MakeCall StartProcess args target)) (at_item (Refuse SpawnFailed)) exchange (λ s h. now ∙ ap asked_more h)
      (λ s rest h. record { next = spawned s target rest (arg args 0) (arg args 1); steps = effect_step program w StartProcess args target refl passes s rest h; answers = refl })

  abbrev started_by : (child : ℕ) → State → State
  started_by child s = started s (arg args 0) (arg args 1) child

  pub started_went : (known : State) (kills : List Bool) (past : Past) (p child : ℕ) → Passes program w.state StartProcess args → Hosted w.state.processes w.kills → child ≡ length w.kills → p ≡ length w.state.processes →
      known ≡ started_by child w.state → AddsOne w.outside.past past (Spawn (bytes_of (arg args 2)) (words_of args)) (Started child) →
      Went program w (then known kills past) (at_item (MakeCall StartProcess args target)) (at_item (reply_item (Answered (TheProcess p)) target))
  started_went known kills past p child passes hosted next is now exchange =
      went_asked program w known kills past start_ask (Started child) (started_by child) (at_item (MakeCall StartProcess args target)) (at_item (GiveAnswer (TheProcess p) target)) exchange
      (λ s h. now ∙ ap (started_by child) h ∙ started_kept s (arg args 0) (arg args 1) child)
      (λ s rest h. record {
        next = spawned s target rest (arg args 0) (arg args 1);
        steps = effect_step program w StartProcess args target refl passes s rest h;
        answers = ap (λ b. spawned_child b s target rest (arg args 0) (arg args 1) child) (next_is_new w.state s w.kills child h hosted next) ∙
            ap (λ n. Some (silent (started_by child s) (GiveAnswer (TheProcess n) target ∷ rest))) (sym (is ∙ ap (λ (t : State). length t.processes) h ∙ length-map s.processes kept));
      })

  pub started_keeps : (known : State) (kills : List Bool) (past : Past) (child : ℕ) → known ≡ started_by child w.state → kills ≡ w.kills ++ false ∷ [] → child ≡ length w.kills → Hosted w.state.processes w.kills → Keeps w (then known kills past)
  started_keeps known kills past child now more next hosted = record {
    hosted = subst (λ k. Hosted known.processes k) (sym more) (subst (λ (t : State). Hosted t.processes (w.kills ++ false ∷ [])) (sym now) (hosted_started w.state.processes w.kills _ next hosted));
    count = omega (arith, ap length more, length-append w.kills (false ∷ []), ap (λ (t : State). length t.processes) now, started_size w.state (arg args 0) (arg args 1) child);
    depth = ap (λ (t : State). t.depth) now;
    inhibited = ap (λ (t : State). t.inhibited) now;
    asked = omega (arith, ap (λ (t : State). t.asked) now);
  }
