-- Laws of decoding in pieces, for each coding.
use Rattle.std.proofs.Common.{◌≡◌, ℕ, zero, suc, ◌≤◌, ◌⊎◌, inl, inr, Bool, true, false, ◌&&◌, ◌==◌, map, List, [], ◌∷◌, ◌++◌, length, refl, ap, sym, ◌∙◌, subst, arith, append_assoc, append-nil}
use Rattle.std.proofs.lemmas.Bool.Decides.{nat_tests}
use Rattle.std.proofs.lemmas.List.{map-append}
use Rattle.text_model.specs.Characters.{Ch, Scalar, Raw}
use Rattle.text_model.specs.Decoding.{Front, Whole, Part, Neither, front, scalar_of, following, characters_after, tail_after, characters, tail, all_characters}
use Rattle.text_model.specs.Codings.{Coding, Utf8, Utf8Dos, Latin1, is_return, is_feed, begins_with_feed, with_feeds, ends_in_return, without_last, settled, decoded, undecoded, all_decoded}
use Rattle.text_model.proofs.Decodings.{characters-whole, characters-part, characters-neither, tail-whole, tail-part, tail-neither, following-length, front-length, open_law, tail_law, all_law}
use Rattle.text_model.proofs.Ascii.{front_whole, front_part, return_behind, no_tail_behind}

-- LINE ENDS
pub and_false : (b : Bool) → (b && false) ≡ false
and_false true = refl
and_false false = refl

-- the last character is a carriage return
abbrev ends_text : List Ch → Bool
ends_text [] = false
ends_text (c ∷ []) = is_return c
ends_text (c ∷ d ∷ text) = ends_text (d ∷ text)

abbrev pub kept_if : Bool → Ch → List Ch → List Ch
kept_if drops c text = elim drops [ true ↦ text | false ↦ c ∷ text ]

feeds_append : (a b : List Ch) → (ends_text a && begins_with_feed b) ≡ false → with_feeds (a ++ b) ≡ with_feeds a ++ with_feeds b
feeds_append [] b h = refl
feeds_append (c ∷ []) b h = ap (λ t. kept_if t c (with_feeds b)) h ∙ ap (λ t. kept_if t c [] ++ with_feeds b) (sym (and_false (is_return c)))
feeds_append (c ∷ d ∷ a) b h = by (is_return c && is_feed d) (feeds_append (d ∷ a) b h)
  where
    by : (t : Bool) → with_feeds (d ∷ (a ++ b)) ≡ with_feeds (d ∷ a) ++ with_feeds b → kept_if t c (with_feeds (d ∷ (a ++ b))) ≡ kept_if t c (with_feeds (d ∷ a)) ++ with_feeds b
    by true e = e
    by false e = ap (λ cs. c ∷ cs) e

without_last_append : (a : List Ch) (c : Ch) (b : List Ch) → without_last (a ++ c ∷ b) ≡ a ++ without_last (c ∷ b)
without_last_append [] c b = refl
without_last_append (d ∷ []) c b = refl
without_last_append (d ∷ e ∷ a) c b = ap (λ cs. d ∷ cs) (without_last_append (e ∷ a) c b)

no_feed_without_last : (a : List Ch) → begins_with_feed a ≡ false → begins_with_feed (without_last a) ≡ false
no_feed_without_last [] h = refl
no_feed_without_last (c ∷ []) h = refl
no_feed_without_last (c ∷ d ∷ a) h = h

-- BYTES AT THE END
-- what bytes that end in a carriage return are
pub record Returned (x : List ℕ) : Type 0 where
  pub front : List ℕ
  pub same : x ≡ front ++ 13 ∷ []

ends_so : (x : List ℕ) → ends_in_return x ≡ true → Returned x
ends_so [] h = cc
ends_so (b ∷ []) h = let same : b ≡ 13 = grind (arith, nat_tests) in record { front = []; same = ap (λ b. b ∷ []) same }
ends_so (b ∷ c ∷ x) h = let rest = ends_so (c ∷ x) h in record { front = b ∷ rest.front; same = ap (λ y. b ∷ y) rest.same }

pub ends_more : (x : List ℕ) (b : ℕ) (y : List ℕ) → ends_in_return (x ++ b ∷ y) ≡ ends_in_return (b ∷ y)
ends_more [] b y = refl
ends_more (a ∷ []) b y = refl
ends_more (a ∷ c ∷ x) b y = ends_more (c ∷ x) b y

-- FRONTS
nothing_left : (x : List ℕ) → characters x ≡ [] → tail x ≡ [] → x ≡ []
nothing_left [] c t = refl
nothing_left (b ∷ x) c t = by (front (b ∷ x)) refl
  where
    by : (f : Front) → front (b ∷ x) ≡ f → b ∷ x ≡ []
    by (Whole s) e = let k : Scalar (scalar_of s) ∷ characters_after (following s) x ≡ [] = sym (characters-whole b x s e) ∙ c in cc
    by Part e = let k : b ∷ x ≡ [] = sym (tail-part b x e) ∙ t in k
    by Neither e = let k : Raw b ∷ characters_after 0 x ≡ [] = sym (characters-neither b x e) ∙ c in cc

-- a carriage return as the last character is the last byte, where no tail is left
ends_behind : (b : ℕ) (x : List ℕ) → ends_in_return x ≡ true → ends_in_return (b ∷ x) ≡ true
ends_behind b [] h = cc
ends_behind b (c ∷ x) h = h

ends_after : (skip : ℕ) (x : List ℕ) → skip ≤ length x → ends_text (characters_after skip x) ≡ true → tail_after skip x ≡ [] → ends_in_return x ≡ true
ends_after zero [] h e t = cc
ends_after (suc skip) [] h e t = absurd (omega arith)
ends_after (suc skip) (b ∷ x) h e t = ends_behind b x (ends_after skip x (omega arith) e t)
ends_after zero (b ∷ x) h e t = by (front (b ∷ x)) refl (λ skip k e t. ends_after skip x k e t)
  where
    more : (c : Ch) (text : List Ch) → ends_text (c ∷ text) ≡ true → (is_return c ≡ true × (text ≡ [])) ⊎ (ends_text text ≡ true)
    more c [] k = inl (k, refl)
    more c (d ∷ text) k = inr k

    by : (f : Front) → front (b ∷ x) ≡ f → ((skip : ℕ) → skip ≤ length x → ends_text (characters_after skip x) ≡ true → tail_after skip x ≡ [] → ends_in_return x ≡ true) → ends_in_return (b ∷ x) ≡ true
    by Part k rest = let none : ends_text [] ≡ true = ap ends_text (sym (characters-part b x k)) ∙ e in cc
    by Neither k rest = left (more (Raw b) (characters_after 0 x) (ap ends_text (sym (characters-neither b x k)) ∙ e))
      where
        left : (is_return (Raw b) ≡ true × (characters_after 0 x ≡ [])) ⊎ (ends_text (characters_after 0 x) ≡ true) → ends_in_return (b ∷ x) ≡ true
        left (inl h) = cc
        left (inr h) = ends_behind b x (rest 0 (omega arith) h (sym (tail-neither b x k) ∙ t))
    by (Whole s) k rest = left (more (Scalar (scalar_of s)) (characters_after (following s) x) (ap ends_text (sym (characters-whole b x s k)) ∙ e)) (front_whole b x s k)
      where
        no_more : tail_after (following s) x ≡ []
        no_more = sym (tail-whole b x s k) ∙ t

        left : ((scalar_of s == 13) ≡ true × (characters_after (following s) x ≡ [])) ⊎ (ends_text (characters_after (following s) x) ≡ true) → ((s ≡ b ∷ []) × (b ≤ 0x7F)) ⊎ ((0x80 ≤ scalar_of s) × (0x80 ≤ b)) → ends_in_return (b ∷ x) ≡ true
        left (inr h) w = ends_behind b x (rest (following s) (following-length s (length x) (front-length (b ∷ x) s k)) h no_more)
        left (inl h) (inr w) = absurd (grind (arith, nat_tests))
        left (inl h) (inl w) =
            let last : (b == 13) ≡ true = ap (λ s. scalar_of s == 13) (sym w.0) ∙ h.0 in
            let none : x ≡ [] = nothing_left x (ap (λ s. characters_after (following s) x) (sym w.0) ∙ h.1) (ap (λ s. tail_after (following s) x) (sym w.0) ∙ no_more) in
            ap (λ y. ends_in_return (b ∷ y)) none ∙ last

-- a tail begins with no ASCII
tail_begins : (skip : ℕ) (x : List ℕ) (b : ℕ) (t : List ℕ) → tail_after skip x ≡ b ∷ t → 0x80 ≤ b
tail_begins skip [] b t e = cc
tail_begins (suc skip) (a ∷ x) b t e = tail_begins skip x b t e
tail_begins zero (a ∷ x) b t e = by (front (a ∷ x)) refl (λ skip k. tail_begins skip x b t k)
  where
    by : (f : Front) → front (a ∷ x) ≡ f → ((skip : ℕ) → tail_after skip x ≡ b ∷ t → 0x80 ≤ b) → 0x80 ≤ b
    by (Whole s) k rest = rest (following s) (sym (tail-whole a x s k) ∙ e)
    by Neither k rest = rest 0 (sym (tail-neither a x k) ∙ e)
    by Part k rest = let same : a ∷ x ≡ b ∷ t = sym (tail-part a x k) ∙ e in let first : a ≡ b = cc in subst (λ n. 0x80 ≤ n) first (front_part a x k)

-- and so do its characters
pub no_feed_first : (b : ℕ) (x : List ℕ) → 0x80 ≤ b → (begins_with_feed (characters (b ∷ x)) ≡ false) × (begins_with_feed (all_characters (b ∷ x)) ≡ false)
no_feed_first b x h = by (front (b ∷ x)) refl
  where
    by : (f : Front) → front (b ∷ x) ≡ f → (begins_with_feed (characters (b ∷ x)) ≡ false) × (begins_with_feed (characters (b ∷ x) ++ map Raw (tail (b ∷ x))) ≡ false)
    by Part k = rw (characters-part b x k, tail-part b x k) (refl, refl)
    by Neither k = rw (characters-neither b x k) (refl, refl)
    by (Whole s) k = rw (characters-whole b x s k) (other (front_whole b x s k), other (front_whole b x s k))
      where
        other : ((s ≡ b ∷ []) × (b ≤ 0x7F)) ⊎ ((0x80 ≤ scalar_of s) × (0x80 ≤ b)) → (scalar_of s == 10) ≡ false
        other (inl w) = absurd (omega (arith, w.1, h))
        other (inr w) = grind (arith, nat_tests)

-- THE LAWS OF DOS
-- bytes that end in a carriage return: their characters, and that no tail is left
pub with_return : (x : List ℕ) → ends_in_return x ≡ true → (characters x ≡ without_last (characters x) ++ Scalar 13 ∷ []) × (tail x ≡ [])
with_return x h =
    let r : Returned x = ends_so x h in
    let all : characters x ≡ all_characters r.front ++ Scalar 13 ∷ [] = ap characters r.same ∙ return_behind r.front in
    let cut : without_last (characters x) ≡ all_characters r.front = ap without_last all ∙ without_last_append (all_characters r.front) (Scalar 13) [] ∙ append-nil (all_characters r.front) in
    (all ∙ ap (λ cs. cs ++ Scalar 13 ∷ []) (sym cut), ap tail r.same ∙ no_tail_behind r.front)

-- what is settled behind some characters
pub settled_append : (x : List ℕ) (a : List Ch) → settled (ends_in_return x) (a ++ characters x) ≡ a ++ settled (ends_in_return x) (characters x)
settled_append x a = by (ends_in_return x) refl
  where
    by : (e : Bool) → ends_in_return x ≡ e → settled e (a ++ characters x) ≡ a ++ settled e (characters x)
    by false k = refl
    by true k = some (characters x) (with_return x k).0
      where
        some : (b : List Ch) → b ≡ without_last b ++ Scalar 13 ∷ [] → without_last (a ++ b) ≡ a ++ without_last b
        some [] k = cc
        some (c ∷ b) k = without_last_append a c b

pub no_feed_settled : (e : Bool) (a : List Ch) → begins_with_feed a ≡ false → begins_with_feed (settled e a) ≡ false
no_feed_settled true a h = no_feed_without_last a h
no_feed_settled false a h = h

-- where bytes end otherwise, no line feed behind them joins with their last character
apart : (x : List ℕ) (rest : List Ch) → ends_in_return x ≡ false → ((b : ℕ) (t : List ℕ) → tail x ≡ b ∷ t → begins_with_feed rest ≡ false) → (ends_text (characters x) && begins_with_feed rest) ≡ false
apart x rest h behind = by (ends_text (characters x)) (tail x) refl refl
  where
    by : (e : Bool) (t : List ℕ) → ends_text (characters x) ≡ e → tail x ≡ t → (e && begins_with_feed rest) ≡ false
    by false t k l = refl
    by true [] k l = let wrong : false ≡ true = sym h ∙ ends_after 0 x (omega arith) k l in cc
    by true (b ∷ t) k l = behind b t l

-- what is left of the first bytes, with more behind it
ends_left : (x y : List ℕ) → ends_in_return x ≡ false → ends_in_return (x ++ y) ≡ ends_in_return (tail x ++ y)
ends_left x (b ∷ y) h = ends_more x b y ∙ sym (ends_more (tail x) b y)
ends_left x [] h = ap ends_in_return (append-nil x) ∙ (h ∙ sym (ap ends_in_return (append-nil (tail x)) ∙ still))
  where
    still : ends_in_return (tail x) ≡ false
    still = by (ends_in_return (tail x)) refl
      where
        by : (e : Bool) → ends_in_return (tail x) ≡ e → e ≡ false
        by false k = refl
        by true k = nothing (tail x) refl k
          where
            nothing : (t : List ℕ) → tail x ≡ t → ends_in_return (tail x) ≡ true → true ≡ false
            nothing [] l k = sym k ∙ ap ends_in_return l
            nothing (b ∷ t) l k =
                let twice : tail (tail x) ≡ tail x = ap tail (sym (append-nil (tail x))) ∙ (sym (tail_law x []) ∙ ap tail (append-nil x)) in
                let none : tail (tail x) ≡ [] = (with_return (tail x) k).1 in
                let wrong : b ∷ t ≡ [] = sym l ∙ (sym twice ∙ none) in cc

-- behind a carriage return
ends_return : (x y : List ℕ) → ends_in_return x ≡ true → ends_in_return (x ++ y) ≡ ends_in_return (13 ∷ y)
ends_return x [] h = ap ends_in_return (append-nil x) ∙ h
ends_return x (b ∷ y) h = ends_more x b y

abbrev pub left_of : Bool → List ℕ → List ℕ
left_of e t = elim e [ true ↦ 13 ∷ [] | false ↦ t ]

abbrev OpensInPieces : Bool → List ℕ → List ℕ → Type 0
OpensInPieces e x y = decoded Utf8Dos (x ++ y) ≡ with_feeds (settled e (characters x)) ++ decoded Utf8Dos (left_of e (tail x) ++ y)

abbrev AllInPieces : Bool → List ℕ → List ℕ → Type 0
AllInPieces e x y = all_decoded Utf8Dos (x ++ y) ≡ with_feeds (settled e (characters x)) ++ all_decoded Utf8Dos (left_of e (tail x) ++ y)

dos_law : (x y : List ℕ) (e : Bool) → ends_in_return x ≡ e → OpensInPieces e x y
dos_law x y false h =
    let whole : settled (ends_in_return (x ++ y)) (characters (x ++ y)) ≡ characters x ++ settled (ends_in_return (tail x ++ y)) (characters (tail x ++ y)) =
    (λ i. settled (ends_left x y h i) (open_law x y i)) ∙ settled_append (tail x ++ y) (characters x) in
    ap with_feeds whole
    ∙ feeds_append (characters x) (settled (ends_in_return (tail x ++ y)) (characters (tail x ++ y)))
    (apart x (settled (ends_in_return (tail x ++ y)) (characters (tail x ++ y))) h (λ b t l. no_feed_settled (ends_in_return (tail x ++ y)) (characters (tail x ++ y)) (rw l (no_feed_first b (t ++ y) (tail_begins 0 x b t l)).0)))
dos_law x y true h =
    let r : (characters x ≡ without_last (characters x) ++ Scalar 13 ∷ []) × (tail x ≡ []) = with_return x h in
    let before : List Ch = without_last (characters x) in
    let whole : characters (x ++ y) ≡ before ++ characters (13 ∷ y) =
    open_law x y ∙ ap (λ t. characters x ++ characters (t ++ y)) r.1 ∙ ap (λ cs. cs ++ characters y) r.0 ∙ append_assoc before (Scalar 13 ∷ []) (characters y) in
    ap with_feeds ((λ i. settled (ends_return x y h i) (whole i)) ∙ settled_append (13 ∷ y) before)
    ∙ feeds_append before (settled (ends_in_return (13 ∷ y)) (characters (13 ∷ y)))
    (ap (λ b. ends_text before && b) (no_feed_settled (ends_in_return (13 ∷ y)) (characters (13 ∷ y)) refl) ∙ and_false (ends_text before))

dos_all_law : (x y : List ℕ) (e : Bool) → ends_in_return x ≡ e → AllInPieces e x y
dos_all_law x y false h =
    ap with_feeds (all_law x y)
    ∙ feeds_append (characters x) (all_characters (tail x ++ y)) (apart x (all_characters (tail x ++ y)) h (λ b t l. rw l (no_feed_first b (t ++ y) (tail_begins 0 x b t l)).1))
dos_all_law x y true h =
    let r : (characters x ≡ without_last (characters x) ++ Scalar 13 ∷ []) × (tail x ≡ []) = with_return x h in
    let before : List Ch = without_last (characters x) in
    let whole : all_characters (x ++ y) ≡ before ++ all_characters (13 ∷ y) =
    all_law x y ∙ ap (λ t. characters x ++ all_characters (t ++ y)) r.1 ∙ ap (λ cs. cs ++ all_characters y) r.0 ∙ append_assoc before (Scalar 13 ∷ []) (all_characters y) in
    ap with_feeds whole
    ∙ feeds_append before (all_characters (13 ∷ y)) (and_false (ends_text before))

dos_tail_law : (x y : List ℕ) (e : Bool) → ends_in_return x ≡ e → undecoded Utf8Dos (x ++ y) ≡ undecoded Utf8Dos (left_of e (tail x) ++ y)
dos_tail_law x y false h = λ i. left_of (ends_left x y h i) (tail_law x y i)
dos_tail_law x y true h =
    let rest : tail (x ++ y) ≡ tail (13 ∷ y) = tail_law x y ∙ ap (λ t. tail (t ++ y)) (with_return x h).1 in
    λ i. left_of (ends_return x y h i) (rest i)

-- THE LAWS OF EACH CODING
pub decoded_law : (c : Coding) (x y : List ℕ) → decoded c (x ++ y) ≡ decoded c x ++ decoded c (undecoded c x ++ y)
decoded_law Utf8 x y = open_law x y
decoded_law Utf8Dos x y = dos_law x y (ends_in_return x) refl
decoded_law Latin1 x y = map-append Scalar x y

pub undecoded_law : (c : Coding) (x y : List ℕ) → undecoded c (x ++ y) ≡ undecoded c (undecoded c x ++ y)
undecoded_law Utf8 x y = tail_law x y
undecoded_law Utf8Dos x y = dos_tail_law x y (ends_in_return x) refl
undecoded_law Latin1 x y = refl

pub all_decoded_law : (c : Coding) (x y : List ℕ) → all_decoded c (x ++ y) ≡ decoded c x ++ all_decoded c (undecoded c x ++ y)
all_decoded_law Utf8 x y = all_law x y
all_decoded_law Utf8Dos x y = dos_all_law x y (ends_in_return x) refl
all_decoded_law Latin1 x y = map-append Scalar x y

-- of no bytes nothing comes
pub none_decoded : (c : Coding) → (decoded c [] ≡ []) × (all_decoded c [] ≡ [])
none_decoded Utf8 = (refl, refl)
none_decoded Utf8Dos = (refl, refl)
none_decoded Latin1 = (refl, refl)

pub undecoded_twice : (c : Coding) (x : List ℕ) → undecoded c (undecoded c x) ≡ undecoded c x
undecoded_twice c x = ap (undecoded c) (sym (append-nil (undecoded c x))) ∙ sym (undecoded_law c x []) ∙ ap (undecoded c) (append-nil x)

pub none_undecoded : (c : Coding) → undecoded c [] ≡ []
none_undecoded Utf8 = refl
none_undecoded Utf8Dos = refl
none_undecoded Latin1 = refl
