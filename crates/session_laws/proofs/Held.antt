-- What is known of a session wherever it is at rest.
use Rattle.std.proofs.Common.{◌≡◌, ◌⊎◌, ℕ, ◌+◌, ◌<◌, ◌≤◌, Bool, true, false, List, [], ◌∷◌, ◌++◌, length, map, refl, sym, ap, ap₂, ◌∙◌, subst, arith, ◌&&◌, append_assoc}
use Rattle.std.specs.Prelude.{Some}
use Rattle.std.proofs.lemmas.List.Folds.{list_all-append}
use Rattle.text_model.specs.Characters.{Ch}
use Rattle.text_model.specs.Properties.{bare}
use Rattle.editor_model.specs.Values.{Value, Reply}
use Rattle.editor_model.specs.Limits.{longest_text}
use Rattle.plain_machine.specs.Exchanges.{Exchange, started_by}
use Rattle.plain_machine.specs.State.{State, Process, Status, Off, process}
use Rattle.plain_machine.specs.Arguments.{runs}
use Rattle.plain_machine.specs.Waits.{is_heard}
use Rattle.plain_machine.specs.Items.{Item, Finish, WriteDump, Said, Config}
use Rattle.plain_machine.specs.Run.{Reaches, start}
use Rattle.machine_laws.specs.Children.{is_kill}
use Rattle.line_session.specs.Lines.{session_lines}
use Rattle.line_session.specs.Script.{session_script}
use Rattle.session_laws.specs.Standing.{Parts, session_program, outside}
use Rattle.session_laws.specs.Sessions.{session_command, characters_gathered, is_off, is_stopped, is_full, TextBy, SessionText, is_spawn, spawns, has_failed, StartsInTurn}
use Rattle.session_laws.proofs.Waiting.{AtWait}
use Rattle.session_laws.proofs.Lined.{heard_by, lines_by, NoKills, no_kills_more}
use Rattle.session_laws.proofs.Lasting.{AllOld, none_runs, only_last, last_stopped}
use Rattle.session_laws.proofs.Living.{Child, living, with_last}
use Rattle.session_laws.proofs.Dying.{ended, restarts, Based}
use Rattle.session_laws.proofs.Restarting.{calling}
use Rattle.session_laws.proofs.Beginning.{beginning, waits_left}
use Rattle.session_laws.proofs.Counted.{InTurn, in_turn_still, spawns_no_more, kill_leaves_lines, kill_spawns_none}

-- THE TEXT
plain_again : (text : List Ch) → map (λ c. c.0) (bare text) ≡ text
plain_again [] = refl
plain_again (c ∷ text) = ap (λ l. c ∷ l) (plain_again text)

pub gathered_is : (parts : Parts) → characters_gathered (outside parts).editor ≡ parts.text
gathered_is parts = plain_again parts.text

-- it is all that the processes tell, or lacks what the last exchange brought
pub data Kept (exchanges : List Exchange) (s : State) : Type 0 where
  all_kept : is_full s ≡ false → characters_gathered s.editor ≡ lines_by s.processes → length (lines_by s.processes) ≤ longest_text → Kept exchanges s
  last_lost : is_full s ≡ true → (before : List Exchange) (refused : Exchange) → exchanges ≡ before ++ refused ∷ [] → characters_gathered s.editor ≡ session_lines before →
      (piece : List Ch) → lines_by s.processes ≡ session_lines before ++ piece → length (session_lines before) ≤ longest_text → longest_text < length (lines_by s.processes) → Kept exchanges s

-- by whether it is full
text_by : (b : Bool) (exchanges : List Exchange) (s : State) → is_full s ≡ b → TextBy b exchanges (characters_gathered s.editor) → SessionText exchanges s
text_by b exchanges s full text = subst (λ b. TextBy b exchanges (characters_gathered s.editor)) (sym full) text

-- so it is at the end
pub kept_text : (exchanges : List Exchange) (s : State) → session_lines exchanges ≡ lines_by s.processes → Kept exchanges s → SessionText exchanges s
kept_text exchanges s lines (all_kept unstopped text fits) = text_by false exchanges s unstopped (record { is = text ∙ sym lines; fits = subst (λ (l : List Ch). length l ≤ longest_text) (sym lines) fits })
kept_text exchanges s lines (last_lost full before refused are text piece lacks fits over) = text_by true exchanges s full (record {
  before = before;
  refused = refused;
  kills = [];
  are = are;
  nothing_more = refl;
  is = text;
  piece = piece;
  lacks = lines ∙ lacks;
  fits = fits;
  over = subst (λ (l : List Ch). longest_text < length l) (sym lines) over;
})

-- THE COUNTS
-- so many processes were started and one, each behind one that failed
pub record Counts (limit : ℕ) (exchanges : List Exchange) (behind : ℕ) : Type 0 where
  pub none : NoKills exchanges
  pub turn : InTurn exchanges
  pub count : spawns exchanges ≡ behind + 1
  pub few : behind ≤ limit

pub counts_still : (limit : ℕ) (exchanges : List Exchange) (behind : ℕ) (x : Exchange) → Counts limit exchanges behind → is_spawn x.ask ≡ false → is_kill x.ask ≡ false → Counts limit (exchanges ++ x ∷ []) behind
counts_still limit exchanges behind x c spawn kill = record {
  none = no_kills_more exchanges x c.none kill;
  turn = in_turn_still exchanges x c.turn spawn;
  count = spawns_no_more exchanges x spawn ∙ c.count;
  few = c.few;
}

pub starts_by : (limit : ℕ) (exchanges : List Exchange) (behind : ℕ) → Counts limit exchanges behind → StartsInTurn limit exchanges
starts_by limit exchanges behind c = record { few = omega (arith, c.count, c.few); behind = c.turn }

-- A CHILD LIVES
pub record Live (limit : ℕ) (exchanges : List Exchange) (s : State) : Type 0 where
  pub parts : Parts
  pub olds : List Process
  pub child : Child
  pub is : s ≡ outside (with_last parts olds (living child))
  pub old : AllOld olds
  pub text : parts.text ≡ lines_by olds ++ heard_by (living child)
  pub fits : length parts.text ≤ longest_text
  pub counts : Counts limit exchanges (length olds)

-- NOTHING IS ASKED ANY MORE
pub record Quiet (limit : ℕ) (exchanges : List Exchange) (s : State) : Type 0 where
  pub idle : (p : ℕ) (y : Process) → process s p ≡ Some y → runs y.status ≡ true → is_heard y.filter ≡ true → ⊥
  pub none : NoKills exchanges
  pub starts : StartsInTurn limit exchanges
  pub kept : Kept exchanges s

-- all have ended
pub all_quiet : (limit : ℕ) (exchanges : List Exchange) (parts : Parts) (olds : List Process) (y : Process) → AllOld (olds ++ y ∷ []) → AllOld olds → is_stopped y ≡ false → parts.text ≡ lines_by (olds ++ y ∷ []) → length parts.text ≤ longest_text →
    NoKills exchanges → StartsInTurn limit exchanges → Quiet limit exchanges (outside (with_last parts olds y))
all_quiet limit exchanges parts olds y all old unstopped text fits none starts = record {
  idle = λ p z there live heard. none_runs (olds ++ y ∷ []) p z all there live;
  none = none;
  starts = starts;
  kept = all_kept (last_stopped olds y old ∙ unstopped) (gathered_is (with_last parts olds y) ∙ text) (subst (λ (l : List Ch). length l ≤ longest_text) text fits);
}

-- the last is read no more
pub stopped_quiet : (limit : ℕ) (before : List Exchange) (x : Exchange) (parts : Parts) (olds : List Process) (y : Process) → AllOld olds → y.filter ≡ Off → session_lines before ≡ parts.text → length parts.text ≤ longest_text →
    (piece : List Ch) → lines_by (olds ++ y ∷ []) ≡ parts.text ++ piece → longest_text < length (parts.text ++ piece) →
    NoKills (before ++ x ∷ []) → StartsInTurn limit (before ++ x ∷ []) → Quiet limit (before ++ x ∷ []) (outside (with_last parts olds y))
stopped_quiet limit before x parts olds y old off lines fits piece lacks over none starts = record {
  idle = λ p z there live heard. let k = only_last olds y z p old there live in let never : true ≡ false = sym heard ∙ ap (λ (z : Process). is_heard z.filter) k.1 ∙ ap is_heard off in cc;
  none = none;
  starts = starts;
  kept = last_lost (last_stopped olds y old ∙ ap is_off off) before x refl (gathered_is (with_last parts olds y) ∙ sym lines) piece
      (lacks ∙ ap (λ l. l ++ piece) (sym lines)) (subst (λ (l : List Ch). length l ≤ longest_text) (sym lines) fits) (subst (λ (l : List Ch). longest_text < length l) (sym lacks) over);
}

-- A CHILD IS TO BE STARTED AGAIN
pub record Again (limit : ℕ) (words : List Value) (exchanges : List Exchange) : Type 0 where
  pub parts : Parts
  pub olds : List Process
  pub child : Child
  pub status : Status
  pub how : Value
  pub base : List Reply
  pub based : Based limit (session_command words) (length olds) how base
  pub more : restarts limit (length olds) how ≡ true
  pub rest : List Item
  pub at : AtWait rest
  pub dead : runs status ≡ false
  pub old : AllOld olds
  pub text : parts.text ≡ lines_by (olds ++ ended child status ∷ [])
  pub fits : length parts.text ≤ longest_text
  pub counts : Counts limit exchanges (length olds)
  pub few : length olds + 1 ≤ limit
  pub failed : has_failed child.child exchanges ≡ true

-- THE END
pub data AtFinish (work : List Item) : Type 0 where
  in_finish : (p : ℕ) → work ≡ Finish p ∷ [] → AtFinish work
  in_dump : work ≡ WriteDump ∷ [] → AtFinish work
  over : work ≡ [] → AtFinish work

-- a kill leaves the text, and what is known of it
still_by : (b : Bool) (exchanges : List Exchange) (x : Exchange) (text : List Ch) → is_kill x.ask ≡ true → started_by x.answer ≡ [] → TextBy b exchanges text → TextBy b (exchanges ++ x ∷ []) text
still_by false exchanges x text kill none t =
    let lines = kill_leaves_lines exchanges x kill none in
    record { is = t.is ∙ sym lines; fits = subst (λ (l : List Ch). length l ≤ longest_text) (sym lines) t.fits }
still_by true exchanges x text kill none t =
    let lines = kill_leaves_lines exchanges x kill none in
    record {
      before = t.before;
      refused = t.refused;
      kills = t.kills ++ x ∷ [];
      are = ap (λ l. l ++ x ∷ []) t.are ∙ append_assoc t.before (t.refused ∷ t.kills) (x ∷ []);
      nothing_more = list_all-append (λ x. is_kill x.ask) t.kills (x ∷ []) ∙ ap₂ (λ a b. a && (b && true)) t.nothing_more kill;
      is = t.is;
      piece = t.piece;
      lacks = lines ∙ t.lacks;
      fits = t.fits;
      over = subst (λ (l : List Ch). longest_text < length l) (sym lines) t.over;
    }

pub text_still : (exchanges : List Exchange) (x : Exchange) (s : State) → is_kill x.ask ≡ true → started_by x.answer ≡ [] → SessionText exchanges s → SessionText (exchanges ++ x ∷ []) s
text_still exchanges x s kill none t = still_by (is_full s) exchanges x (characters_gathered s.editor) kill none t

pub starts_still : (limit : ℕ) (exchanges : List Exchange) (x : Exchange) → is_kill x.ask ≡ true → StartsInTurn limit exchanges → StartsInTurn limit (exchanges ++ x ∷ [])
starts_still limit exchanges x kill starts =
    let spawn = kill_spawns_none x.ask kill in
    record { few = omega (arith, spawns_no_more exchanges x spawn, starts.few); behind = in_turn_still exchanges x starts.behind spawn }

-- WHERE IT RESTS
pub data Shape (limit : ℕ) (words : List Value) (bound : ℕ) (exchanges : List Exchange) (c : Config) : Type 0 where
  begins : c ≡ start (session_script (session_command words)) → exchanges ≡ [] → Shape limit words bound exchanges c
  first : c ≡ beginning limit words bound waits_left → exchanges ≡ [] → Shape limit words bound exchanges c
  waits : (s : State) (work : List Item) → c ≡ record { state = s; work = work } → AtWait work → Live limit exchanges s ⊎ Quiet limit exchanges s → Shape limit words bound exchanges c
  starts_more : (a : Again limit words exchanges) → c ≡ calling limit words bound a.olds a.child a.status a.how a.base a.based a.more a.rest a.parts → Shape limit words bound exchanges c
  finishes : (s : State) (work : List Item) → c ≡ record { state = s; work = work } → AtFinish work → SessionText exchanges s → StartsInTurn limit exchanges → Shape limit words bound exchanges c

-- it comes to rest by itself
pub record Comes (limit : ℕ) (words : List Value) (bound : ℕ) (exchanges : List Exchange) (c : Config) : Type 0 where
  pub said : List Said
  pub there : Config
  pub way : Reaches (session_program limit (session_command words)) bound c [] said there
  pub shape : Shape limit words bound exchanges there
