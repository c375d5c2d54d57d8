-- Undoing back to a kept boundary gives the text of the moment at which it was pushed.
use Rattle.std.proofs.Common.{◌≡◌, ℕ, zero, suc, ◌≤◌, ◌<◌, Bool, true, false, List, [], ◌∷◌, length, refl, ap, sym, subst, ◌∙◌, arith, ◌⊎◌, inl, inr}
use Rattle.std.specs.Prelude.{nat_lt, Option, Some, None}
use Rattle.std.proofs.lemmas.Bool.{ltb-true, ltb-false, false≢true}
use Rattle.std.proofs.lemmas.Option.{same_Some, none-some}
use Rattle.text_model.specs.Properties.{Cell}
use Rattle.text_model.specs.Undo.{Entry, newer_than, rewind, passed, trial}
use Rattle.text_model.specs.Commit.{Buffer, undone_groups}
use Rattle.text_model.specs.Undo.{boundary_at, ends_with}
use Rattle.machine_laws.proofs.Records.{not_above}
use Rattle.editor_model.specs.Values.{Script}
use Rattle.editor_model.specs.Editor.{Editor, Live, live, buffer_at, new_editor}
use Rattle.editor_model.specs.Table.{prepare}
use Rattle.machine_laws.proofs.GoodEditor.{GoodEditor, Passes}
use Rattle.machine_laws.proofs.Advancing.{live_below, buffer_live}
use Rattle.machine_laws.specs.Fits.{GoodSite}
use Rattle.plain_machine.specs.Exchanges.{Exchange, Ask, Answer}
use Rattle.plain_machine.specs.State.{State, Program}
use Rattle.plain_machine.specs.Items.{Said, Config, Next, Step, Goes, Asks}
use Rattle.plain_machine.specs.Step.{step, item_step}
use Rattle.text_model.specs.Marks.{Saved, Excursion, Restriction, Pending}
use Rattle.editor_model.specs.Answers.{first_fault, Change, What, Put, Props, UndoGroups, Quiet, Commit, Committed, Done, Failed}
use Rattle.editor_model.specs.Commits.{commit_tests, commit, commit_of, changed, outcome}
use Rattle.editor_model.specs.Values.{UndoMore}
use Rattle.machine_laws.proofs.Committing.{groups_committed, tried_at}
use Rattle.machine_laws.proofs.Groups.{Undone, groups_undone}
use Rattle.plain_machine.specs.Items.{Item, Ended}
use Rattle.plain_machine.specs.Forms.{commit_change, at_kept, saved_of, after_commit}
use Rattle.plain_machine.specs.Calls.{change_call}
use Rattle.plain_machine.specs.Run.{Reaches, start}
use Rattle.machine_laws.proofs.GoodConfig.{GoodConfig, Well}
use Rattle.machine_laws.specs.UndoneRuns.{Commits, PassesQuietly, Undoes, UndoReturns}
use Rattle.plain_machine.proofs.Composed.{over_runs}
use Rattle.machine_laws.proofs.Stepping.{StepWell, AnswerWell, step_well}

-- GOOD CONFIGURATIONS
well_good : (e : Editor) (d : Config) → Well e d → GoodConfig d
well_good e d w = record { editor = w.advances.good; work = w.work; stack = w.stack }

module _ (program : Program) (bound : ℕ) where
  pub goes_well : (c : Config) (n : Next) → GoodConfig c → step program bound c ≡ Goes n → Well c.state.editor n.config
  goes_well c n g h = subst (λ x. StepWell c.state x) h (step_well program bound c g)

  pub asks_well : (c : Config) (ask : Ask) (answer : Answer) (k : Answer → Option Next) (n : Next) → GoodConfig c → step program bound c ≡ Asks ask k → k answer ≡ Some n → Well c.state.editor n.config
  asks_well c ask answer k n g h e = subst (λ x. AnswerWell c.state x) e ((subst (λ x. StepWell c.state x) h (step_well program bound c g)) answer)

  -- a step from a good configuration comes to a good one
  pub goes_good : (c : Config) (n : Next) → GoodConfig c → step program bound c ≡ Goes n → GoodConfig n.config
  goes_good c n g h = well_good c.state.editor n.config (goes_well c n g h)

  pub asks_good : (c : Config) (ask : Ask) (answer : Answer) (k : Answer → Option Next) (n : Next) → GoodConfig c → step program bound c ≡ Asks ask k → k answer ≡ Some n → GoodConfig n.config
  asks_good c ask answer k n g h e = well_good c.state.editor n.config (asks_well c ask answer k n g h e)

  -- every configuration that is reached from a good one is good
  pub reaches_good : (from c : Config) (exchanges : List Exchange) (said : List Said) → GoodConfig from → Reaches program bound from exchanges said c → GoodConfig c
  reaches_good from c exchanges said g r =
      over_runs program bound (λ x y z. GoodConfig z)
      (λ x y z n i h. goes_good z n i h)
      (λ x y z ask answer k n i h e. asks_good z ask answer k n i h e)
      r [] [] g

  -- THE TEXT AT A BOUNDARY
  -- a buffer that lives has this text, with what is newer than the boundary undone, as long as the boundary stands
  pub record Remembers (b serial : ℕ) (text : List Cell) (c : Config) : Type 0 where
    pub good : GoodConfig c
    pub made : b < length c.state.editor.buffers
    pub pushed : (l : Live) → live c.state.editor b ≡ Some l → serial < l.buffer.undo.next
    pub back : (l : Live) → live c.state.editor b ≡ Some l → boundary_at serial l.buffer.undo.entries ≡ true → rewind (newer_than serial l.buffer.undo.entries) l.buffer.text ≡ text

  remembers_more : (b serial : ℕ) (text : List Cell) (c d : Config) → Remembers b serial text c → Well c.state.editor d → Remembers b serial text d
  remembers_more b serial text c d m w = record {
    good = well_good c.state.editor d w;
    made = let x : b < length c.state.editor.buffers = m.made in let y : length c.state.editor.buffers ≤ length d.state.editor.buffers = w.advances.longer in omega arith;
    pushed = λ l h. pushed l h (live c.state.editor b) refl;
    back = λ l h k. back l h k (live c.state.editor b) refl;
  }
    where
      pushed : (l : Live) → live d.state.editor b ≡ Some l → (o : Option Live) → live c.state.editor b ≡ o → serial < l.buffer.undo.next
      pushed l h None q = absurd (none-some l (sym (w.advances.dead b m.made q) ∙ h))
      pushed l h (Some k) q = let x : serial < k.buffer.undo.next = m.pushed k q in let y : k.buffer.undo.next ≤ l.buffer.undo.next = (w.advances.passes b k l q h).grows in omega arith

      back : (l : Live) → live d.state.editor b ≡ Some l → boundary_at serial l.buffer.undo.entries ≡ true → (o : Option Live) → live c.state.editor b ≡ o → rewind (newer_than serial l.buffer.undo.entries) l.buffer.text ≡ text
      back l h k None q = absurd (none-some l (sym (w.advances.dead b m.made q) ∙ h))
      back l h k (Some j) q =
          let p : Passes j.buffer l.buffer = w.advances.passes b j l q h in
          p.back serial (m.pushed j q) k ∙ m.back j q (p.stood serial (m.pushed j q) k)

  reaches_remembers : (b serial : ℕ) (text : List Cell) (from c : Config) (exchanges : List Exchange) (said : List Said) → Remembers b serial text from → Reaches program bound from exchanges said c → Remembers b serial text c
  reaches_remembers b serial text from c exchanges said m r =
      over_runs program bound (λ x y z. Remembers b serial text z)
      (λ x y z n i h. remembers_more b serial text z n.config i (goes_well z n i.good h))
      (λ x y z ask answer k n i h e. remembers_more b serial text z n.config i (asks_well z ask answer k n i.good h e))
      r [] [] m

-- THE COMMIT
abbrev IsStep : Step → Next → Type 0
IsStep t n = t ≡ Goes n

one_goes : (a b : Next) → Goes a ≡ Goes b → a ≡ b
one_goes a b h = cc

abbrev IsDone : Committed → Type 0
IsDone (Done from to old) = Unit {0}
IsDone (Failed f) = ⊥

outcome_done : (old new : Buffer) (from to : ℕ) (what : What) → IsDone (outcome old new from to what)
outcome_done old new from to (Put piece all point_after widen mark) = tt
outcome_done old new from to (Props edit) = tt
outcome_done old new from to (UndoGroups n) = tt

commit_done : (e : Editor) (k : Change) → first_fault (commit_tests e k.buffer k.what) ≡ None → IsDone (commit e k).committed
commit_done e k t = subst (λ o. IsDone (commit_of o e (changed e k.buffer k.from k.to k.what) k).committed) (sym t) (outcome_done (buffer_at e k.buffer) (buffer_at (changed e k.buffer k.from k.to k.what) k.buffer) k.from k.to k.what)

-- a buffer after a commit is as the commit left it
commit_live : (s : State) (c : Change) (rest : List Item) (n : Next) (b : ℕ) → commit_change s c rest ≡ Goes n → IsDone (commit s.editor (at_kept c (saved_of s))).committed → live (commit s.editor (at_kept c (saved_of s))).editor b ≡ live n.config.state.editor b
commit_live s c rest n b h t = go (commit s.editor (at_kept c (saved_of s))) h t
  where
    go : (done : Commit) → IsStep (after_commit done.editor done.committed s c rest) n → IsDone done.committed → live done.editor b ≡ live n.config.state.editor b
    go done k d = by_kind done.committed k d
      where
        by_kind : (o : Committed) → IsStep (after_commit done.editor o s c rest) n → IsDone o → live done.editor b ≡ live n.config.state.editor b
        by_kind (Failed f) k d = absurd d
        by_kind (Done from to old) k d = ap (λ x. live x.config.state.editor b) (one_goes _ n k)

kept_buffer : (c : Change) (ks : List Saved) → (at_kept c ks).buffer ≡ c.buffer
kept_buffer c [] = refl
kept_buffer c (Excursion b p ∷ ks) = refl
kept_buffer c (Restriction b ends ∷ ks) = refl
kept_buffer c (Pending b from to ∷ ks) = refl

kept_what : (c : Change) (ks : List Saved) → (at_kept c ks).what ≡ c.what
kept_what c [] = refl
kept_what c (Excursion b p ∷ ks) = refl
kept_what c (Restriction b ends ∷ ks) = refl
kept_what c (Pending b from to ∷ ks) = refl

-- THE LAW
abbrev undone_records : ℕ → Buffer → List Entry
undone_records n b = Rattle.text_model.specs.Undo.undone n b.undo

-- the buffer after a step that undoes groups, by whichever of its two ways
undone_live : (program : Program) (bound : ℕ) (d : Config) (n : Next) (b groups : ℕ) (l m : Live) → Undoes d b groups → step program bound d ≡ Goes n → live d.state.editor b ≡ Some l → live n.config.state.editor b ≡ Some m →
    m.buffer ≡ (undone_groups b (passed groups l.buffer.undo) (record { buffer = l.buffer; marks = d.state.editor.marks })).buffer
undone_live program bound d n b groups l m (change, way, in_b, of_groups, unbarred) h q r = by_way way
  where
    s : State
    s = d.state

    by_way : Commits d change ⊎ PassesQuietly d change → m.buffer ≡ (undone_groups b (passed groups l.buffer.undo) (record { buffer = l.buffer; marks = s.editor.marks })).buffer
    by_way (inl (rest, w)) =
        let k : Change = at_kept change (saved_of s) in
        let p : k.buffer ≡ b = kept_buffer change (saved_of s) ∙ in_b in
        let v : k.what ≡ UndoGroups groups = kept_what change (saved_of s) ∙ of_groups in
        let t : first_fault (commit_tests s.editor k.buffer k.what) ≡ None = ap (λ i. first_fault (commit_tests s.editor i k.what)) p ∙ ap (λ x. first_fault (commit_tests s.editor b x)) v ∙ unbarred in
        let g : commit_change s change rest ≡ Goes n = subst (λ work. IsStep (elim work [ [] ↦ Ended | item ∷ more ↦ item_step program bound s more item ]) n) w h in
        groups_committed s.editor k b groups l m p v unbarred q (commit_live s change rest n b g (commit_done s.editor k t) ∙ r)
    by_way (inr (args, target, rest, w, quiet)) =
        let g : change_call s target rest (prepare s.editor UndoMore args) ≡ Goes n = subst (λ work. IsStep (elim work [ [] ↦ Ended | item ∷ more ↦ item_step program bound s more item ]) n) w h in
        let x : change_call s target rest (Quiet change) ≡ Goes n = subst (λ p. IsStep (change_call s target rest p) n) quiet g in
        groups_committed s.editor change b groups l m in_b of_groups unbarred q (ap (λ y. live y.config.state.editor b) (one_goes _ n x) ∙ r)

-- Undoing back to a boundary gives the text of the moment at which it was pushed.
pub undo_returns : (program : Program) (bound : ℕ) (from : Config) → GoodConfig from → UndoReturns program bound from
undo_returns program bound from start_good first second said more c d n n' b groups serial x x' y y' first_run pushes (l, live_l, is_x) (l', live_l', is_x') wasnt stands second_run (m, live_m, is_y) undoes still ends goes (m', live_m', is_y') =
    ap (λ z. z.text) (sym is_y') ∙ ap (λ z. z.text) after ∙ undone.kept serial still_m ends_m ∙ at_last.back m live_m still_m
  where
    w : Well c.state.editor n.config
    w = goes_well program bound c n (reaches_good program bound from c first said start_good first_run) pushes

    p : Passes l.buffer l'.buffer
    p = w.advances.passes b l l' live_l live_l'

    stands_l : boundary_at serial l'.buffer.undo.entries ≡ true
    stands_l = subst (λ z. boundary_at serial z.undo.entries ≡ true) (sym is_x') stands

    -- it is a new one
    is_new : (v : Bool) → nat_lt serial l.buffer.undo.next ≡ v → l.buffer.undo.next ≤ serial
    is_new true q = absurd (false≢true (sym (subst (λ z. boundary_at serial z.undo.entries ≡ false) (sym is_x) wasnt) ∙ p.stood serial (ltb-true serial l.buffer.undo.next q) stands_l))
    is_new false q = ltb-false serial l.buffer.undo.next q

    is_below : (v : Bool) → nat_lt serial l'.buffer.undo.next ≡ v → serial < l'.buffer.undo.next
    is_below true q = ltb-true serial l'.buffer.undo.next q
    is_below false q = absurd (false≢true (sym (not_above l'.buffer.undo.next l'.buffer.undo.entries p.good.falling serial (ltb-false serial l'.buffer.undo.next q)) ∙ stands_l))

    at_first : Remembers program bound b serial x'.text n.config
    at_first = record {
      good = well_good c.state.editor n.config w;
      made = live_below n.config.state.editor b l' live_l';
      pushed = λ k h. subst (λ z. serial < z.buffer.undo.next) (same_Some l' k (sym live_l' ∙ h)) (is_below (nat_lt serial l'.buffer.undo.next) refl);
      back = λ k h q. subst (λ z. rewind (newer_than serial z.buffer.undo.entries) z.buffer.text ≡ x'.text) (same_Some l' k (sym live_l' ∙ h))
          (ap (λ es. rewind es l'.buffer.text) (p.pushed serial (is_new (nat_lt serial l.buffer.undo.next) refl) stands_l) ∙ ap (λ z. z.text) is_x');
    }

    at_last : Remembers program bound b serial x'.text d
    at_last = reaches_remembers program bound b serial x'.text n.config d second more at_first second_run

    still_m : boundary_at serial m.buffer.undo.entries ≡ true
    still_m = subst (λ z. boundary_at serial z.undo.entries ≡ true) (sym is_y) still

    ends_m : ends_with serial (passed groups m.buffer.undo) ≡ true
    ends_m = subst (λ z. ends_with serial (passed groups z.undo) ≡ true) (sym is_y) ends

    site : GoodSite b (record { buffer = m.buffer; marks = d.state.editor.marks })
    site = at_last.good.editor.each b m live_m

    undone : Undone groups m.buffer (undone_groups b (passed groups m.buffer.undo) (record { buffer = m.buffer; marks = d.state.editor.marks })).buffer
    undone = groups_undone b groups (record { buffer = m.buffer; marks = d.state.editor.marks }) site.good site.fits.end_fits (subst (λ z. trial z.begin z.end (undone_records groups z) ≡ None) (buffer_live d.state.editor b m live_m) (tried_at d.state.editor b groups undoes.4))

    after : m'.buffer ≡ (undone_groups b (passed groups m.buffer.undo) (record { buffer = m.buffer; marks = d.state.editor.marks })).buffer
    after = undone_live program bound d n' b groups m m' undoes goes live_m live_m'

-- THE START
new_good : GoodEditor new_editor
new_good = record { each = λ id l h. each id l h; unborn = λ id h. record { markers = tt; overlays = tt; saved = tt } }
  where
    each : (id : ℕ) (l : Live) → live new_editor id ≡ Some l → GoodSite id (record { buffer = l.buffer; marks = new_editor.marks })
    each zero l h = subst (λ z. GoodSite zero (record { buffer = z.buffer; marks = new_editor.marks })) (same_Some _ l h)
        (record {
          good = record { ordered = tt; falling = tt; off = λ q. refl; below = omega arith; agrees = λ s a q. absurd (omega arith) };
          fits = record { begin_fits = omega arith; end_fits = omega arith; begin_to_point = omega arith; point_to_end = omega arith; marks_fit = record { markers = tt; overlays = tt; saved = tt } };
        })
    each (suc id) l h = absurd (none-some l h)

pub start_good : (script : Script) → GoodConfig (start script)
start_good script = record { editor = new_good; work = (tt, tt); stack = tt }

-- in every run of a script
pub undo_returns_in_runs : (program : Program) (bound : ℕ) (script : Script) → UndoReturns program bound (start script)
undo_returns_in_runs program bound script = undo_returns program bound (start script) (start_good script)
