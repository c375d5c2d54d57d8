-- Whole runs of a session, and runs that were broken off.
use Rattle.std.proofs.Common.{◌≡◌, ℕ, List, [], ◌∷◌, ◌++◌, sym, ap, subst, append-nil, append_assoc}
use Rattle.editor_model.specs.Values.{Value}
use Rattle.plain_machine.specs.Exchanges.{Exchange, living}
use Rattle.plain_machine.specs.WholeRuns.{AreKills, Ran, BrokenOff}
use Rattle.machine_laws.specs.Children.{is_kill}
use Rattle.line_session.specs.Script.{session_script}
use Rattle.session_laws.specs.Sessions.{session_command, whole_program, SessionText, StartsInTurn}
use Rattle.session_laws.proofs.Held.{starts_still}
use Rattle.session_laws.proofs.Sessions.{no_starts, session_ends, session_starts}

module _ (limit : ℕ) (words : List Value) (bound : ℕ) where
  -- kills are no starts
  starts_killed : (children : List ℕ) (exchanges kills : List Exchange) → StartsInTurn limit exchanges → AreKills children kills → StartsInTurn limit (exchanges ++ kills)
  starts_killed [] exchanges [] starts are = subst (λ l. StartsInTurn limit l) (sym (append-nil exchanges)) starts
  starts_killed [] exchanges (x ∷ kills) starts are = absurd are
  starts_killed (c ∷ children) exchanges [] starts are = absurd are
  starts_killed (c ∷ children) exchanges (x ∷ kills) starts are =
      subst (λ l. StartsInTurn limit l) (append_assoc exchanges (x ∷ []) kills)
      (starts_killed children (exchanges ++ x ∷ []) kills (starts_still limit exchanges x (ap is_kill are.0) starts) are.1)

  pub ran_text : (exchanges : List Exchange) (written : List ℕ) (r : Ran (whole_program limit words) bound (session_script (session_command words)) exchanges written) → SessionText exchanges r.last.state
  ran_text exchanges written r = session_ends limit words bound exchanges r.said r.last r.run r.ended

  pub ran_starts : (exchanges : List Exchange) (written : List ℕ) → Ran (whole_program limit words) bound (session_script (session_command words)) exchanges written → StartsInTurn limit exchanges
  ran_starts exchanges written r = session_starts limit words bound exchanges r.said r.last r.run

  pub broken_starts : (exchanges : List Exchange) (written : List ℕ) → BrokenOff (whole_program limit words) bound (session_script (session_command words)) exchanges written → StartsInTurn limit exchanges
  broken_starts exchanges written r =
      subst (λ l. StartsInTurn limit l) (sym r.exchanges_are)
      (starts_killed (living r.made) r.made r.kills (session_starts limit words bound r.made r.said r.last r.run) r.killed)

  -- nothing was started where nothing was asked
  pub quiet_starts : (exchanges : List Exchange) → exchanges ≡ [] → StartsInTurn limit exchanges
  quiet_starts exchanges none = subst (λ l. StartsInTurn limit l) (sym none) (no_starts limit words bound)
