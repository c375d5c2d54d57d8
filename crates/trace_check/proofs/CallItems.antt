-- Calls that ask no child.
use Rattle.std.proofs.Common.{◌≡◌, ℕ, suc, ◌+◌, ◌<◌, ◌≤◌, List, [], ◌∷◌, ◌++◌, map, length, drop, get_or, refl, ap, sym, ◌∙◌, add-one, drop-cons}
use Rattle.std.proofs.lemmas.List.{drop_all}
use Rattle.std.specs.Prelude.{Option, Some, None, Bool, true, false}
use Rattle.editor_model.specs.Values.{Value, Nil, T, Fault, Reply, Answered, Refused, Prim, AcceptProcessOutput, DeleteProcess, KillBuffer}
use Rattle.editor_model.specs.Editor.{is_live, killed}
use Rattle.editor_model.specs.Arguments.{arg, buffer_of}
use Rattle.editor_model.specs.Answers.{Change, Prepared, Changes, Quiet, Nothing, Barred, Applied, applied, applied_of, first_fault}
use Rattle.editor_model.specs.Prims.{OnlyAsks, SetsState, ChangesText, ConcernsHandlers, manner_of}
use Rattle.editor_model.specs.Table.{query, apply, prepare, commit}
use Rattle.plain_machine.specs.Arguments.{process_of, running_in}
use Rattle.plain_machine.specs.State.{State, Program}
use Rattle.plain_machine.specs.Items.{Item, MakeCall, MakeChange, GiveAnswer, Refuse, Wait, Delete, KillBuffer as KillsBuffer, Target, Waiting}
use Rattle.plain_machine.specs.Calls.{on, answered, call_by, change_call, process_effect, unless_fault, with_editor}
use Rattle.plain_machine.specs.Refusals.{must_be_replaceable}
use Rattle.plain_machine.specs.Step.{step}
use Rattle.plain_machine.specs.Waits.{kill_live}
use Rattle.kernel_steps.specs.Outside.{deepest}
use Rattle.kernel_steps.specs.Processes.{IsSilent, set_by, told_by}
use Rattle.kernel_steps.specs.Waits.{Passes, refusal_of, waiting_of, killed_by}
use Rattle.kernel_steps.specs.Work.{working, reply_item}
use Rattle.kernel_steps.specs.Worlds.{Stands}
use Rattle.kernel_steps.proofs.KeptProcesses.{tests_alike, process_alike, running_in_alike, waiting_alike}
use Rattle.kernel_steps.proofs.Silently.{silent_step, set_by_kept, told_by_kept}
use Rattle.trace_check.specs.Steps.{Quietly}
use Rattle.trace_check.proofs.Quiet.{quietly, stays_put}

is_answered : (s : State) (target : Target) (r : Reply) (rest : List Item) → answered s target r rest ≡ on s (reply_item r target ∷ rest)
is_answered s target (Answered v) rest = refl
is_answered s target (Refused f) rest = refl

module _ (program : Program) (known : State) (args : List Value) (target : Target) (rest : List Item) where
  -- OF THE EDITOR
  pub asks_editor : (prim : Prim) (r : Reply) (left : List Item) → manner_of prim ≡ OnlyAsks → r ≡ query known.editor prim args → left ≡ reply_item r target ∷ rest → Quietly program known known (MakeCall prim args target ∷ rest) left
  asks_editor prim r left manner is e = stays_put program known _ left (λ s h.
      ap (λ m. call_by m program deepest s target rest prim args) manner ∙ is_answered s target (query s.editor prim args) rest
      ∙ ap (λ q. on s (reply_item q target ∷ rest)) (ap (λ (t : State). query t.editor prim args) (sym h) ∙ sym is) ∙ ap (on s) (sym e))

  abbrev applied_to : Prim → State → State
  applied_to prim s = record s { editor = (apply s.editor prim args).editor }

  pub sets_editor : (known2 : State) (prim : Prim) (r : Reply) (left : List Item) → manner_of prim ≡ SetsState → known2 ≡ record known { editor = (apply known.editor prim args).editor } → r ≡ (apply known.editor prim args).reply →
      left ≡ reply_item r target ∷ rest → Quietly program known known2 (MakeCall prim args target ∷ rest) left
  sets_editor known2 prim r left manner now is e = quietly program known known2 _ left (applied_to prim) (λ s h. now ∙ ap (applied_to prim) h) (λ s h.
      ap (λ m. call_by m program deepest s target rest prim args) manner ∙ is_answered (applied_to prim s) target (apply s.editor prim args).reply rest
      ∙ ap (λ q. on (applied_to prim s) (reply_item q target ∷ rest)) (ap (λ (t : State). (apply t.editor prim args).reply) (sym h) ∙ sym is) ∙ ap (on (applied_to prim s)) (sym e))

  -- OF A TEXT
  prepared_step : (prim : Prim) (p : Prepared) → manner_of prim ≡ ChangesText → p ≡ prepare known.editor prim args → (s : State) → Stands known s → step program deepest (working s (MakeCall prim args target ∷ rest)) ≡ change_call s target rest p
  prepared_step prim p manner is s h =
      ap (λ m. call_by m program deepest s target rest prim args) manner
      ∙ ap (change_call s target rest) (ap (λ (t : State). prepare t.editor prim args) (sym h) ∙ sym is)

  pub change_put : (prim : Prim) (c : Change) (left : List Item) → manner_of prim ≡ ChangesText → Changes c ≡ prepare known.editor prim args → left ≡ MakeChange c ∷ GiveAnswer c.reply target ∷ rest → Quietly program known known (MakeCall prim args target ∷ rest) left
  change_put prim c left manner is e = stays_put program known _ left (λ s h. prepared_step prim (Changes c) manner is s h ∙ ap (on s) (sym e))

  pub nothing_put : (prim : Prim) (v : Value) (left : List Item) → manner_of prim ≡ ChangesText → Nothing v ≡ prepare known.editor prim args → left ≡ GiveAnswer v target ∷ rest → Quietly program known known (MakeCall prim args target ∷ rest) left
  nothing_put prim v left manner is e = stays_put program known _ left (λ s h. prepared_step prim (Nothing v) manner is s h ∙ ap (on s) (sym e))

  pub barred_put : (prim : Prim) (f : Fault) (left : List Item) → manner_of prim ≡ ChangesText → Barred f ≡ prepare known.editor prim args → left ≡ Refuse f ∷ rest → Quietly program known known (MakeCall prim args target ∷ rest) left
  barred_put prim f left manner is e = stays_put program known _ left (λ s h. prepared_step prim (Barred f) manner is s h ∙ ap (on s) (sym e))

  abbrev committed : Change → State → State
  committed c s = record s { editor = (commit s.editor c).editor }

  pub quiet_put : (known2 : State) (prim : Prim) (c : Change) (left : List Item) → manner_of prim ≡ ChangesText → Quiet c ≡ prepare known.editor prim args → known2 ≡ record known { editor = (commit known.editor c).editor } →
      left ≡ GiveAnswer c.reply target ∷ rest → Quietly program known known2 (MakeCall prim args target ∷ rest) left
  quiet_put known2 prim c left manner is now e = quietly program known known2 _ left (committed c) (λ s h. now ∙ ap (committed c) h) (λ s h. prepared_step prim (Quiet c) manner is s h ∙ ap (on (committed c s)) (sym e))

  -- ON HOOKS AND PROCESSES
  refused_alike : (s : State) (prim : Prim) → Stands known s → refusal_of program s prim args ≡ refusal_of program known prim args
  refused_alike s prim h = ap first_fault (sym (tests_alike program known s prim args h))

  pub refused_put : (prim : Prim) (f : Fault) (left : List Item) → manner_of prim ≡ ConcernsHandlers → Some f ≡ refusal_of program known prim args → left ≡ Refuse f ∷ rest → Quietly program known known (MakeCall prim args target ∷ rest) left
  refused_put prim f left manner refused e = stays_put program known _ left (λ s h.
      ap (λ m. call_by m program deepest s target rest prim args) manner ∙ ap (λ o. unless_fault o s rest (process_effect s target rest prim args)) (refused_alike s prim h ∙ sym refused) ∙ ap (on s) (sym e))

  -- a call that passes its tests has its effect
  pub effect_step : (prim : Prim) → manner_of prim ≡ ConcernsHandlers → Passes program known prim args → (s : State) → Stands known s → step program deepest (working s (MakeCall prim args target ∷ rest)) ≡ process_effect s target rest prim args
  effect_step prim manner p s h = ap (λ m. call_by m program deepest s target rest prim args) manner ∙ ap (λ o. unless_fault o s rest (process_effect s target rest prim args)) (refused_alike s prim h ∙ p)

  pub silent_put : (known2 : State) (prim : Prim) (v : Value) (left : List Item) → manner_of prim ≡ ConcernsHandlers → IsSilent prim → Passes program known prim args → v ≡ told_by known prim args → known2 ≡ set_by prim args known →
      left ≡ GiveAnswer v target ∷ rest → Quietly program known known2 (MakeCall prim args target ∷ rest) left
  silent_put known2 prim v left manner silent p is now e = quietly program known known2 _ left (set_by prim args) (λ s h. now ∙ ap (set_by prim args) h ∙ set_by_kept prim args s) (λ s h.
      effect_step prim manner p s h ∙ silent_step program s target rest prim args silent
      ∙ ap (λ v. on (set_by prim args s) (GiveAnswer v target ∷ rest)) (sym (told_by_kept prim args s) ∙ ap (λ t. told_by t prim args) (sym h) ∙ sym is) ∙ ap (on (set_by prim args s)) (sym e))

  pub wait_put : (w : Waiting) (left : List Item) → Passes program known AcceptProcessOutput args → w ≡ waiting_of known args → left ≡ Wait w target ∷ rest → Quietly program known known (MakeCall AcceptProcessOutput args target ∷ rest) left
  wait_put w left p is e = stays_put program known _ left (λ s h.
      effect_step AcceptProcessOutput refl p s h ∙ ap (λ b. on s (Wait b target ∷ rest)) (sym (is ∙ waiting_alike known s (arg args 0) (arg args 1) (arg args 2) h)) ∙ ap (on s) (sym e))

  pub delete_put : (p : ℕ) (left : List Item) → Passes program known DeleteProcess args → p ≡ process_of known (arg args 0) → left ≡ Delete p ∷ GiveAnswer Nil target ∷ rest → Quietly program known known (MakeCall DeleteProcess args target ∷ rest) left
  delete_put p left passes is e = stays_put program known _ left (λ s h.
      effect_step DeleteProcess refl passes s h ∙ ap (λ b. on s (Delete b ∷ GiveAnswer Nil target ∷ rest)) (sym (is ∙ process_alike known s (arg args 0) h)) ∙ ap (on s) (sym e))

  pub kills_put : (b : ℕ) (ps : List ℕ) (left : List Item) → Passes program known KillBuffer args → b ≡ buffer_of known.editor (arg args 0) → ps ≡ running_in known b → left ≡ map Delete ps ++ (KillsBuffer b target ∷ rest) →
      Quietly program known known (MakeCall KillBuffer args target ∷ rest) left
  kills_put b ps left passes buffer are e = stays_put program known _ left (λ s h.
      let same : buffer_of s.editor (arg args 0) ≡ b = ap (λ (t : State). buffer_of t.editor (arg args 0)) (sym h) ∙ sym buffer in
      effect_step KillBuffer refl passes s h ∙ ap (λ n. on s (map Delete (running_in s n) ++ (KillsBuffer n target ∷ rest))) same ∙ ap (λ l. on s (map Delete l ++ (KillsBuffer b target ∷ rest))) (sym (are ∙ running_in_alike known s b h)) ∙ ap (on s) (sym e))

-- deletions are put in front from the last one on
pub deletes_more : (ps : List ℕ) (j p : ℕ) (tail : List Item) → j < length ps → p ≡ get_or ps j p → Delete p ∷ (map Delete (drop (j + 1) ps) ++ tail) ≡ map Delete (drop j ps) ++ tail
deletes_more ps j p tail within read = sym (
    ap (λ l. map Delete l ++ tail) (drop-cons ps j p within)
    ∙ ap (λ q. Delete q ∷ (map Delete (drop (suc j) ps) ++ tail)) (sym read)
    ∙ ap (λ k. Delete p ∷ (map Delete (drop k ps) ++ tail)) (sym (add-one j))
    )

pub deletes_none : (ps : List ℕ) (n : ℕ) (tail : List Item) → length ps ≤ n → map Delete (drop n ps) ++ tail ≡ tail
deletes_none ps n tail past = ap (λ l. map Delete l ++ tail) (drop_all n ps past)

-- THE KILL OF A BUFFER
abbrev by_life : State → (b : ℕ) → Bool → Applied
by_life s b lives = elim lives [ true ↦ applied s.editor (must_be_replaceable s.editor b ∷ []) (killed b s.editor) T | false ↦ record { editor = s.editor; reply = Answered Nil } ]

killed_by_fault : (s : State) (b : ℕ) (target : Target) (rest : List Item) (o : Option Fault) →
    unless_fault o s rest (on (with_editor (killed b s.editor) s) (GiveAnswer T target ∷ rest)) ≡ on (with_editor (applied_of o s.editor (killed b s.editor) T).editor s) (reply_item (applied_of o s.editor (killed b s.editor) T).reply target ∷ rest)
killed_by_fault s b target rest None = refl
killed_by_fault s b target rest (Some f) = refl

killed_step : (s : State) (b : ℕ) (target : Target) (rest : List Item) (lives : Bool) → kill_live lives s b target rest ≡ on (with_editor (by_life s b lives).editor s) (reply_item (by_life s b lives).reply target ∷ rest)
killed_step s b target rest true = killed_by_fault s b target rest (first_fault (must_be_replaceable s.editor b ∷ []))
killed_step s b target rest false = refl

module _ (program : Program) (known known2 : State) (b : ℕ) (target : Target) (rest : List Item) where
  abbrev without : State → State
  without s = record s { editor = (killed_by s.editor b).editor }

  pub kill_done : (r : Reply) (left : List Item) → known2 ≡ record known { editor = (killed_by known.editor b).editor } → r ≡ (killed_by known.editor b).reply → left ≡ reply_item r target ∷ rest → Quietly program known known2 (KillsBuffer b target ∷ rest) left
  kill_done r left now is e = quietly program known known2 _ left without (λ s h. now ∙ ap without h)
      (λ s h. killed_step s b target rest (is_live s.editor b) ∙ ap (λ q. on (without s) (reply_item q target ∷ rest)) (ap (λ (t : State). (killed_by t.editor b).reply) (sym h) ∙ sym is) ∙ ap (on (without s)) (sym e))
