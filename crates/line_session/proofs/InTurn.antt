-- Calls in turn, by how many replies there are and whether they are answers.
use Rattle.std.proofs.Common.{◌≡◌, ◌<◌, ◌≤◌, ℕ, zero, suc, Bool, true, false, ◌&&◌, List, [], ◌∷◌, ◌++◌, map, length, take, drop, get_or, refl, ap, sym, ◌∙◌, arith}
use Rattle.std.specs.Prelude.{Option, Some, None, Result, Ok, Err, IfOk, unwrap_or}
use Rattle.std.specs.List.{list_all}
use Rattle.std.proofs.lemmas.List.{append-nil, append_assoc}
use Rattle.editor_model.specs.Arguments.{arg}
use Rattle.editor_model.specs.Values.{Value, Nil, Reply, Answered, Refused, SetBuffer, PointMax, GotoChar, CharAfter, StartProcess, ProcessSentinel, SetProcessFilter, SetProcessSentinel}
use Rattle.plain_machine.specs.Shipped.{NativeCall, line, Anything, along}
use Rattle.ek_call.specs.Meaning.{reply_of}
use Rattle.ek_call.specs.declared.reply.Reply as written
use Rattle.line_session.specs.Handlers.{Calls, in_turn, nothing, to_the_end, put_or_stop, session_filter, before, to_the_last, start_again, behind_last, session_sentinel}
use Rattle.handler_code.specs.Calls.{answer_of}
use Rattle.line_session.specs.Replies.{is_answer, has_answers, replies_of}

abbrev After : Type 0
After = List Value → List Reply → Option NativeCall

abbrev along_calls : Calls → List Value → List Reply → After → Option NativeCall
along_calls calls answers past after = along (map (line Anything) calls) answers past after

pub if_ok_same : {T E B : Type 0} (f : T → B) (r : Result T E) (a b : B) → IfOk r (λ x. f x ≡ a) → a ≡ b → IfOk r (λ x. f x ≡ b)
if_ok_same f (Ok x) a b is same = is ∙ same
if_ok_same f (Err e) a b is same = is

-- an argument by its place, as it is copied
pub first_argument : (o p : Option Value) → o ≡ p → unwrap_or o Nil ≡ unwrap_or p Nil
first_argument o p same = ap (λ a. unwrap_or a Nil) same

-- ANSWERS
pub too_few : (n : ℕ) (past : List written.Reply) → length past < n → false ≡ has_answers n (replies_of past)
too_few zero past few = absurd (omega (arith, few))
too_few (suc n) [] few = refl
too_few (suc n) (r ∷ past) few = go (is_answer (reply_of r)) (too_few n past (omega (arith, few)))
  where
    go : (t : Bool) → false ≡ has_answers n (replies_of past) → false ≡ (t && has_answers n (replies_of past))
    go true later = later
    go false later = refl

pub all_in_front : (n : ℕ) (past : List written.Reply) → n ≤ length past → list_all (λ r. is_answer (reply_of r)) (take n past) ≡ has_answers n (replies_of past)
all_in_front zero past enough = refl
all_in_front (suc n) [] enough = absurd (omega (arith, enough))
all_in_front (suc n) (r ∷ past) enough = ap (λ b. is_answer (reply_of r) && b) (all_in_front n past (omega (arith, enough)))

-- not all replies are answers: nothing is called
pub unanswered : (calls : Calls) (answers : List Value) (past : List written.Reply) → list_all (λ r. is_answer (reply_of r)) past ≡ false → along_calls calls answers (replies_of past) nothing ≡ None
unanswered calls answers [] some = cc
unanswered [] answers (r ∷ past) some = refl
unanswered (c ∷ calls) answers (r ∷ past) some = go (reply_of r) (λ v. unanswered calls (answers ++ v ∷ []) past) some
  where
    go : (r : Reply) → ((v : Value) → list_all (λ r. is_answer (reply_of r)) past ≡ false → along_calls calls (answers ++ v ∷ []) (replies_of past) nothing ≡ None) → (is_answer r && list_all (λ r. is_answer (reply_of r)) past) ≡ false → along_calls (c ∷ calls) answers (r ∷ replies_of past) nothing ≡ None
    go (Answered v) later e = later v e
    go (Refused f) later e = refl

-- all are, and another call follows
pub next_in_turn : (calls : Calls) (answers : List Value) (past : List written.Reply) (k : ℕ) (d : List Value → NativeCall) (after : After) → list_all (λ r. is_answer (reply_of r)) past ≡ true → length past ≡ k → k < length calls → along_calls calls answers (replies_of past) after ≡ Some (get_or calls k d (answers ++ map answer_of (replies_of past)))
next_in_turn [] answers past k d after all is within = absurd (omega (arith, within))
next_in_turn (c ∷ calls) answers [] zero d after all is within = ap (λ a. Some (c a)) (sym (append-nil answers))
next_in_turn (c ∷ calls) answers [] (suc k) d after all is within = absurd (omega (arith, is))
next_in_turn (c ∷ calls) answers (r ∷ past) zero d after all is within = absurd (omega (arith, is))
next_in_turn (c ∷ calls) answers (r ∷ past) (suc k) d after all is within = go (reply_of r) (λ v e. next_in_turn calls (answers ++ v ∷ []) past k d after e (omega (arith, is)) (omega (arith, within)) ∙ ap (λ a. Some (get_or calls k d a)) (append_assoc answers (v ∷ []) (map answer_of (replies_of past)))) all
  where
    go : (r : Reply) → ((v : Value) → list_all (λ r. is_answer (reply_of r)) past ≡ true → along_calls calls (answers ++ v ∷ []) (replies_of past) after ≡ Some (get_or calls k d (answers ++ v ∷ map answer_of (replies_of past)))) → (is_answer r && list_all (λ r. is_answer (reply_of r)) past) ≡ true → along_calls (c ∷ calls) answers (r ∷ replies_of past) after ≡ Some (get_or (c ∷ calls) (suc k) d (answers ++ answer_of r ∷ map answer_of (replies_of past)))
    go (Answered v) later e = later v e
    go (Refused f) later e = cc

-- all calls were made
pub all_made : (calls : Calls) (answers : List Value) (past : List written.Reply) → length calls ≤ length past → along_calls calls answers (replies_of past) nothing ≡ None
all_made [] answers past many = refl
all_made (c ∷ calls) answers [] many = absurd (omega (arith, many))
all_made (c ∷ calls) answers (r ∷ past) many = go (reply_of r) (λ v. all_made calls (answers ++ v ∷ []) past (omega (arith, many)))
  where
    go : (r : Reply) → ((v : Value) → along_calls calls (answers ++ v ∷ []) (replies_of past) nothing ≡ None) → along_calls (c ∷ calls) answers (r ∷ replies_of past) nothing ≡ None
    go (Answered v) later = later v
    go (Refused f) later = refl

-- few replies never come to the last calls
pub short_of : (calls more : Calls) (answers : List Value) (past : List written.Reply) (after : After) → length past < length calls → along_calls (calls ++ more) answers (replies_of past) after ≡ along_calls calls answers (replies_of past) nothing
short_of [] more answers past after short = absurd (omega (arith, short))
short_of (c ∷ calls) more answers [] after short = refl
short_of (c ∷ calls) more answers (r ∷ past) after short = go (reply_of r) (λ v. short_of calls more (answers ++ v ∷ []) past after (omega (arith, short)))
  where
    go : (r : Reply) → ((v : Value) → along_calls (calls ++ more) (answers ++ v ∷ []) (replies_of past) after ≡ along_calls calls (answers ++ v ∷ []) (replies_of past) nothing) → along_calls ((c ∷ calls) ++ more) answers (r ∷ replies_of past) after ≡ along_calls (c ∷ calls) answers (r ∷ replies_of past) nothing
    go (Answered v) later = later v
    go (Refused f) later = refl

-- what is called behind the list
pub behind_all : (calls : Calls) (answers : List Value) (past : List written.Reply) (after : After) → has_answers (length calls) (replies_of past) ≡ true → along_calls calls answers (replies_of past) after ≡ after (answers ++ map answer_of (replies_of (take (length calls) past))) (replies_of (drop (length calls) past))
behind_all [] answers past after all = ap (λ a. after a (replies_of past)) (sym (append-nil answers))
behind_all (c ∷ calls) answers [] after all = cc
behind_all (c ∷ calls) answers (r ∷ past) after all = go (reply_of r) (λ v e. behind_all calls (answers ++ v ∷ []) past after e ∙ ap (λ a. after a (replies_of (drop (length calls) past))) (append_assoc answers (v ∷ []) (map answer_of (replies_of (take (length calls) past))))) all
  where
    go : (r : Reply) → ((v : Value) → has_answers (length calls) (replies_of past) ≡ true → along_calls calls (answers ++ v ∷ []) (replies_of past) after ≡ after (answers ++ v ∷ map answer_of (replies_of (take (length calls) past))) (replies_of (drop (length calls) past))) → (is_answer r && has_answers (length calls) (replies_of past)) ≡ true → along_calls (c ∷ calls) answers (r ∷ replies_of past) after ≡ after (answers ++ answer_of r ∷ map answer_of (replies_of (take (length calls) past))) (replies_of (drop (length calls) past))
    go (Answered v) later e = later v e
    go (Refused f) later e = cc

pub not_behind : (calls : Calls) (answers : List Value) (past : List written.Reply) (after : After) → has_answers (length calls) (replies_of past) ≡ false → along_calls calls answers (replies_of past) after ≡ along_calls calls answers (replies_of past) nothing
not_behind [] answers past after short = cc
not_behind (c ∷ calls) answers [] after short = refl
not_behind (c ∷ calls) answers (r ∷ past) after short = go (reply_of r) (λ v. not_behind calls (answers ++ v ∷ []) past after) short
  where
    go : (r : Reply) → ((v : Value) → has_answers (length calls) (replies_of past) ≡ false → along_calls calls (answers ++ v ∷ []) (replies_of past) after ≡ along_calls calls (answers ++ v ∷ []) (replies_of past) nothing) → (is_answer r && has_answers (length calls) (replies_of past)) ≡ false → along_calls (c ∷ calls) answers (r ∷ replies_of past) after ≡ along_calls (c ∷ calls) answers (r ∷ replies_of past) nothing
    go (Answered v) later e = later v e
    go (Refused f) later e = refl

-- the fifth answer is among the first five
fifth_answer : (past : List written.Reply) → arg (map answer_of (replies_of (take 5 past))) 4 ≡ arg (map answer_of (replies_of past)) 4
fifth_answer [] = refl
fifth_answer (a ∷ []) = refl
fifth_answer (a ∷ b ∷ []) = refl
fifth_answer (a ∷ b ∷ c ∷ []) = refl
fifth_answer (a ∷ b ∷ c ∷ d ∷ []) = refl
fifth_answer (a ∷ b ∷ c ∷ d ∷ e ∷ past) = refl

-- THE LISTS OF THE TWO NATIVES
abbrev other : List Value → NativeCall
other a = (PointMax, [])

pub end_unanswered : (p : Value) (past : List written.Reply) → list_all (λ r. is_answer (reply_of r)) past ≡ false → in_turn (to_the_end p) (replies_of past) nothing ≡ None
end_unanswered p past some = unanswered (to_the_end p) [] past some

pub end_1 : (p : Value) (past : List written.Reply) → list_all (λ r. is_answer (reply_of r)) past ≡ true → length past ≡ 1 → in_turn (to_the_end p) (replies_of past) nothing ≡ Some (SetBuffer, arg (map answer_of (replies_of past)) 0 ∷ [])
end_1 p past all is = next_in_turn (to_the_end p) [] past 1 other nothing all is (omega arith)

pub end_2 : (p : Value) (past : List written.Reply) → list_all (λ r. is_answer (reply_of r)) past ≡ true → length past ≡ 2 → in_turn (to_the_end p) (replies_of past) nothing ≡ Some (PointMax, [])
end_2 p past all is = next_in_turn (to_the_end p) [] past 2 other nothing all is (omega arith)

pub end_3 : (p : Value) (past : List written.Reply) → list_all (λ r. is_answer (reply_of r)) past ≡ true → length past ≡ 3 → in_turn (to_the_end p) (replies_of past) nothing ≡ Some (GotoChar, arg (map answer_of (replies_of past)) 2 ∷ [])
end_3 p past all is = next_in_turn (to_the_end p) [] past 3 other nothing all is (omega arith)

pub end_made : (p : Value) (past : List written.Reply) → 4 ≤ length past → in_turn (to_the_end p) (replies_of past) nothing ≡ None
end_made p past many = all_made (to_the_end p) [] past many

pub filter_short : (p text : Value) (past : List written.Reply) → has_answers 4 (replies_of past) ≡ false → session_filter p text (replies_of past) ≡ in_turn (to_the_end p) (replies_of past) nothing
filter_short p text past short = not_behind (to_the_end p) [] past (λ answers left. put_or_stop p text (λ behind. None) left) short

pub filter_behind : (p text : Value) (past : List written.Reply) → has_answers 4 (replies_of past) ≡ true → session_filter p text (replies_of past) ≡ put_or_stop p text (λ behind. None) (replies_of (drop 4 past))
filter_behind p text past all = behind_all (to_the_end p) [] past (λ answers left. put_or_stop p text (λ behind. None) left) all

pub last_near : (p : Value) (past : List written.Reply) → length past < 4 → in_turn (to_the_last p) (replies_of past) nothing ≡ in_turn (to_the_end p) (replies_of past) nothing
last_near p past short = short_of (to_the_end p) ((λ a. (CharAfter, before (arg a 2) ∷ [])) ∷ []) [] past nothing short

pub last_unanswered : (p : Value) (past : List written.Reply) → list_all (λ r. is_answer (reply_of r)) past ≡ false → in_turn (to_the_last p) (replies_of past) nothing ≡ None
last_unanswered p past some = unanswered (to_the_last p) [] past some

pub last_next : (p : Value) (past : List written.Reply) → list_all (λ r. is_answer (reply_of r)) past ≡ true → length past ≡ 4 → in_turn (to_the_last p) (replies_of past) nothing ≡ Some (CharAfter, before (arg (map answer_of (replies_of past)) 2) ∷ [])
last_next p past all is = next_in_turn (to_the_last p) [] past 4 other nothing all is (omega arith)

pub last_made : (p : Value) (past : List written.Reply) → 4 < length past → in_turn (to_the_last p) (replies_of past) nothing ≡ None
last_made p past many = all_made (to_the_last p) [] past (omega (arith, many))

pub sentinel_short : (limit : ℕ) (command : List Value) (p how : Value) (past : List written.Reply) → has_answers 5 (replies_of past) ≡ false → session_sentinel limit command p how (replies_of past) ≡ in_turn (to_the_last p) (replies_of past) nothing
sentinel_short limit command p how past short = not_behind (to_the_last p) [] past (λ answers left. behind_last limit command p how (arg answers 4) left) short

pub sentinel_behind : (limit : ℕ) (command : List Value) (p how : Value) (past : List written.Reply) → has_answers 5 (replies_of past) ≡ true → session_sentinel limit command p how (replies_of past) ≡ behind_last limit command p how (arg (map answer_of (replies_of past)) 4) (replies_of (drop 5 past))
sentinel_behind limit command p how past all =
    behind_all (to_the_last p) [] past (λ answers left. behind_last limit command p how (arg answers 4) left) all ∙
    ap (λ last. behind_last limit command p how last (replies_of (drop 5 past))) (fifth_answer past)

pub start_unanswered : (command : List Value) (p : Value) (past : List written.Reply) → list_all (λ r. is_answer (reply_of r)) past ≡ false → in_turn (start_again command p) (replies_of past) nothing ≡ None
start_unanswered command p past some = unanswered (start_again command p) [] past some

pub start_1 : (command : List Value) (p : Value) (past : List written.Reply) → list_all (λ r. is_answer (reply_of r)) past ≡ true → length past ≡ 1 → in_turn (start_again command p) (replies_of past) nothing ≡ Some (ProcessSentinel, p ∷ [])
start_1 command p past all is = next_in_turn (start_again command p) [] past 1 other nothing all is (omega arith)

pub start_2 : (command : List Value) (p : Value) (past : List written.Reply) → list_all (λ r. is_answer (reply_of r)) past ≡ true → length past ≡ 2 → in_turn (start_again command p) (replies_of past) nothing ≡ Some (StartProcess, command)
start_2 command p past all is = next_in_turn (start_again command p) [] past 2 other nothing all is (omega arith)

pub start_3 : (command : List Value) (p : Value) (past : List written.Reply) → list_all (λ r. is_answer (reply_of r)) past ≡ true → length past ≡ 3 → in_turn (start_again command p) (replies_of past) nothing ≡ Some (SetProcessFilter, arg (map answer_of (replies_of past)) 2 ∷ arg (map answer_of (replies_of past)) 0 ∷ [])
start_3 command p past all is = next_in_turn (start_again command p) [] past 3 other nothing all is (omega arith)

pub start_4 : (command : List Value) (p : Value) (past : List written.Reply) → list_all (λ r. is_answer (reply_of r)) past ≡ true → length past ≡ 4 → in_turn (start_again command p) (replies_of past) nothing ≡ Some (SetProcessSentinel, arg (map answer_of (replies_of past)) 2 ∷ arg (map answer_of (replies_of past)) 1 ∷ [])
start_4 command p past all is = next_in_turn (start_again command p) [] past 4 other nothing all is (omega arith)

pub start_made : (command : List Value) (p : Value) (past : List written.Reply) → 5 ≤ length past → in_turn (start_again command p) (replies_of past) nothing ≡ None
start_made command p past many = all_made (start_again command p) [] past many
