-- Rows that get blocks.
use Rattle.std.proofs.Common.{◌≡◌, ◌≢◌, ℕ, ◌+◌, ◌-◌, ◌≤◌, List, [], ◌∷◌, ◌++◌, length, take, drop, refl, sym, ap, ◌∙◌, subst, arith, append_assoc, Option, None, IsSomeAnd}
use Rattle.std.proofs.lemmas.List.{append-nil, length-append, take-take, drop-take, take_at, drop_at, drop-drop, take-append-drop}
use Rattle.text_pool.specs.Pool.{Pooled, cells_at, IsLive, live, SameOthers}
use Rattle.gap_text.specs.Blocks.{Absent, Distinct, AllLive}
use Rattle.gap_text.specs.Growth.{Grown, Appended, put_at, brought}
use Rattle.gap_text.proofs.BlockLemmas.{absent_join, absent_split, live_join, live_turn, distinct_join, distinct_turn, absent_turn, absent_turn_back, apart_sym}

none_not_live : (o : Option (List ℕ)) → o ≡ None → IsSomeAnd o (λ found. length found ≡ 256) → ⊥
none_not_live o e h = rw e at h

pub live_differs : (pool : Pooled) (block number : ℕ) → cells_at pool block ≡ None → IsLive pool number → number ≢ block
live_differs pool block number none live e = none_not_live (cells_at pool block) none (subst (IsLive pool) e live)

pub absent_not_live : (pool : Pooled) (block : ℕ) (blocks : List ℕ) → cells_at pool block ≡ None → AllLive pool blocks → Absent block blocks
absent_not_live pool block [] none live = tt
absent_not_live pool block (b ∷ blocks) none live = ((λ e. live_differs pool block b none live.0 (sym e)), absent_not_live pool block blocks none live.1)

pub still_live : (old new : Pooled) (blocks : List ℕ) → ((number : ℕ) → IsLive old number → cells_at new number ≡ cells_at old number) → AllLive old blocks → AllLive new blocks
still_live old new [] same live = tt
still_live old new (b ∷ blocks) same live = (rw (same b live.0) live.0, still_live old new blocks same live.1)

pub grows_by_one : (old new : Pooled) (before : List ℕ) (block : ℕ) → AllLive old before → Distinct before
    → cells_at old block ≡ None → IsLive new block → SameOthers old new block → new.spare + 1 ≡ old.spare → live new ≡ live old + 1
    → Grown old new before (before ++ block ∷ []) 1
grows_by_one old new before block all_live distinct none here same spare count =
    let fresh : Absent block before = absent_not_live old block before none all_live in
    let stay : (number : ℕ) → IsLive old number → cells_at new number ≡ cells_at old number = λ number h. same number (live_differs old block number none h) in
    record {
      all_live = live_join new before (block ∷ []) (still_live old new before stay all_live) (here, tt);
      distinct = distinct_join before (block ∷ []) distinct (tt, tt) (apart_sym (block ∷ []) before (fresh, tt));
      fresh = λ number h a. absent_join number before (block ∷ []) a (live_differs old block number none h, tt);
      kept = λ number a. (absent_split number before (block ∷ []) a).0;
      same = stay;
      outside = λ number a. same number (absent_split number before (block ∷ []) a).1.0;
      spare = spare;
      count = count;
    }

pub starts_growing : (pool : Pooled) (blocks : List ℕ) → AllLive pool blocks → Distinct blocks → Grown pool pool blocks blocks 0
starts_growing pool blocks all_live distinct = record {
  all_live = all_live;
  distinct = distinct;
  fresh = λ number h a. a;
  kept = λ number a. a;
  same = λ number h. refl;
  outside = λ number a. refl;
  spare = omega arith;
  count = omega arith;
}

pub grows_on : (first middle last : Pooled) (before blocks after : List ℕ) (n : ℕ) → Grown first middle before blocks n → Grown middle last blocks after 1
    → Grown first last before after (n + 1)
grows_on first middle last before blocks after n g h =
    let alive : (number : ℕ) → IsLive first number → IsLive middle number = λ number l. rw (g.same number l) l in
    let spare : last.spare + 1 ≡ middle.spare = h.spare in
    let spare_before : middle.spare + n ≡ first.spare = g.spare in
    let count : live last ≡ live middle + 1 = h.count in
    let count_before : live middle ≡ live first + n = g.count in
    record {
      all_live = h.all_live;
      distinct = h.distinct;
      fresh = λ number l a. h.fresh number (alive number l) (g.fresh number l a);
      kept = λ number a. g.kept number (h.kept number a);
      same = λ number l. h.same number (alive number l) ∙ g.same number l;
      outside = λ number a. h.outside number a ∙ g.outside number (h.kept number a);
      spare = omega arith;
      count = omega arith;
    }

pub starts_appending : (blocks : List ℕ) → Appended blocks blocks 0
starts_appending blocks = record { added = []; many = refl; items = sym (append-nil blocks) }

pub appends_on : (before blocks after : List ℕ) (n : ℕ) → Appended before blocks n → Appended blocks after 1 → Appended before after (n + 1)
appends_on before blocks after n g h = record {
  added = g.added ++ h.added;
  many = length-append g.added h.added ∙ (rw (g.many, h.many) refl);
  items = h.items ∙ ap (λ l. l ++ h.added) g.items ∙ append_assoc before g.added h.added;
}

-- the last blocks of a list are brought before some others
pub turned : (blocks : List ℕ) (at more : ℕ) → at + more ≤ length blocks
    → take at blocks ++ (drop (length blocks - at - more) (drop at blocks) ++ take (length blocks - at - more) (drop at blocks)) ≡ brought at more blocks
turned blocks at more h =
    let front : take at (take (length blocks - more) blocks) ≡ take at blocks = take-take at (length blocks - more) blocks (omega arith) in
    let n : length blocks - more ≡ at + (length blocks - at - more) = omega arith in
    let back : drop at (take (length blocks - more) blocks) ≡ take (length blocks - at - more) (drop at blocks) =
    ap (λ k. drop at (take k blocks)) n ∙ drop-take at (length blocks - at - more) blocks in
    let last : drop (length blocks - more) blocks ≡ drop (length blocks - at - more) (drop at blocks) =
    ap (λ k. drop k blocks) n ∙ sym (drop-drop (length blocks - at - more) at blocks) in
    rw (front, back, last) refl

-- appended blocks that are brought to a place
pub appended_then_brought : (before blocks : List ℕ) (at more : ℕ) (g : Appended before blocks more) → brought at more blocks ≡ put_at at g.added before
appended_then_brought before blocks at more g =
    let l : length blocks ≡ length before + more = ap length g.items ∙ length-append before g.added ∙ ap (λ n. length before + n) g.many in
    let n : length before ≡ length blocks - more = omega arith in
    let front : take (length blocks - more) blocks ≡ before = ap (λ b. take (length blocks - more) b) g.items ∙ take_at before g.added (length blocks - more) n in
    let back : drop (length blocks - more) blocks ≡ g.added = ap (λ b. drop (length blocks - more) b) g.items ∙ drop_at before g.added (length blocks - more) n in
    rw (front, back) refl

-- it makes no difference where the new blocks stand
turned_same : (old new : Pooled) (front back added : List ℕ) (more : ℕ) → Grown old new (front ++ back) ((front ++ back) ++ added) more
    → Grown old new (front ++ back) (front ++ (added ++ back)) more
turned_same old new front back added more g = record {
  all_live = live_turn new front back added g.all_live;
  distinct = distinct_turn front back added g.distinct;
  fresh = λ number h a. absent_turn number front back added (g.fresh number h a);
  kept = λ number a. g.kept number (absent_turn_back number front back added a);
  same = g.same;
  outside = λ number a. g.outside number (absent_turn_back number front back added a);
  spare = g.spare;
  count = g.count;
}

pub grown_turned : (old new : Pooled) (before blocks : List ℕ) (at more : ℕ) → Grown old new before blocks more → (a : Appended before blocks more)
    → Grown old new before (put_at at a.added before) more
grown_turned old new before blocks at more g a =
    let split : take at before ++ drop at before ≡ before = take-append-drop at before in
    let whole : Grown old new (take at before ++ drop at before) ((take at before ++ drop at before) ++ a.added) more =
    subst (λ b. Grown old new b (b ++ a.added) more) (sym split) (subst (λ l. Grown old new before l more) a.items g) in
    subst (λ b. Grown old new b (put_at at a.added before) more) split (turned_same old new (take at before) (drop at before) a.added more whole)
