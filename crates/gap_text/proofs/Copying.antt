-- The steps of the loops that copy a text and that give its blocks back.
use Rattle.std.proofs.Common.{◌≡◌, ℕ, ◌+◌, ◌-◌, ◌*◌, ◌≤◌, List, [], ◌∷◌, ◌++◌, length, take, drop, map, refl, sym, ap, ◌∙◌, subst, arith, append_assoc, append-nil, None}
use Rattle.std.specs.Prelude.{min}
use Rattle.std.proofs.lemmas.List.{length-append, length-drop, length-take, length-take-le, take-take, drop_all}
use Rattle.text_model.specs.Characters.{code}
use Rattle.text_pool.specs.Pool.{Pooled, cells_at, IsLive, live, SameOthers}
use Rattle.gap_text.specs.Blocks.{cells_of, Absent, Distinct, AllLive, AllGone, Apart, IsRow, SameOutside, OnlyFresh, ChangesCellsOf}
use Rattle.ek_types.specs.Seen.{AreCodes}
use Rattle.ek_types.proofs.Readings.{part_of_read}
use Rattle.gap_text.specs.Text.{Gapped, codes, characters, LiesIn}
use Rattle.gap_text.proofs.BlockLemmas.{apart_nil, absent_split, apart_sym, distinct_split, live_split}
use Rattle.gap_text.proofs.Rows.{length_row}
use Rattle.gap_text.proofs.Moves.{Writing, writes}
use Rattle.gap_text.proofs.Texts.{made}
use Rattle.gap_text.proofs.Elsewhere.{SameText, text_elsewhere, live_elsewhere}

pub source_stays : (blocks codes_of : List ℕ) (source : Gapped) (first pool : Pooled) (place count : ℕ) → Writing blocks first pool place codes_of count → Apart source.blocks blocks → LiesIn first source → SameText first pool source source
source_stays blocks codes_of source first pool place count w apart lies = text_elsewhere first pool source blocks w.changes.others apart lies

-- codes that are lent, as they stand among all
lent_codes : (source : Gapped) (first middle : Pooled) (place : ℕ) (lent : List ℕ) → SameText first middle source source → lent ≡ map code (take (length lent) (drop place (characters middle source)))
    → lent ≡ take (length lent) (drop place (codes first source))
lent_codes source first middle place lent same e =
    e ∙ sym (part_of_read place (length lent) (codes middle source) same.lies.codes) ∙ ap (λ cs. take (length lent) (drop place cs)) same.codes

-- no more are lent than there are
pub lent_within : (source : Gapped) (first middle : Pooled) (place : ℕ) (lent : List ℕ) → SameText first middle source source → lent ≡ map code (take (length lent) (drop place (characters middle source)))
    → place ≤ length (codes first source) → place + length lent ≤ length (codes first source)
lent_within source first middle place lent same e h =
    let size : length lent ≡ min (length lent) (length (drop place (codes first source))) = ap length (lent_codes source first middle place lent same e) ∙ length-take (length lent) (drop place (codes first source)) in
    omega (arith, length-drop place (codes first source))

-- some more codes are in the first cells of a row
pub copies_on : (blocks : List ℕ) (source : Gapped) (first middle last : Pooled) (place count : ℕ) (lent part : List ℕ) → Writing blocks first middle 0 (codes first source) place
    → Apart source.blocks blocks → LiesIn first source → place ≤ length (codes first source) → length (codes first source) ≤ 256 * length blocks
    → lent ≡ map code (take (length lent) (drop place (characters middle source))) → count ≤ length lent → part ≡ take count lent
    → cells_of last blocks ≡ take place (cells_of middle blocks) ++ part ++ drop (place + length part) (cells_of middle blocks) → IsRow last blocks → ChangesCellsOf blocks middle last
    → Writing blocks first last 0 (codes first source) (place + count)
copies_on blocks source first middle last place count lent part w apart lies within room e few is written row changes =
    let same = source_stays blocks (codes first source) source first middle 0 place w apart lies in
    let more : place + length lent ≤ length (codes first source) = lent_within source first middle place lent same e within in
    let z : 0 + place ≡ place = omega arith in
    let size : length part ≡ count = ap length is ∙ length-take-le count lent few in
    let front : part ≡ take count (drop place (codes first source)) = is ∙ ap (take count) (lent_codes source first middle place lent same e) ∙ take-take count (length lent) (drop place (codes first source)) few in
    writes blocks first middle last 0 (codes first source) place count part w (omega arith) size front (rw z written) row changes

-- a text without characters that got those of another
pub filled_text : (first last : Pooled) (from : Gapped) (blocks : List ℕ) (spare count : ℕ) → spare ≡ 256 * length blocks → LiesIn first from → count ≡ length (codes first from) → count ≤ spare
    → take (length (codes first from)) (cells_of last blocks) ≡ codes first from → IsRow last blocks → SameText first last from (made blocks count (spare - count))
filled_text first last from blocks spare count empty lies n room written row =
    let size : length (cells_of last blocks) ≡ 256 * length blocks = length_row last blocks row.live in
    let front : take count (cells_of last blocks) ≡ codes first from = ap (λ k. take k (cells_of last blocks)) n ∙ written in
    let back : drop (count + (spare - count)) (cells_of last blocks) ≡ [] = drop_all (count + (spare - count)) (cells_of last blocks) (omega arith) in
    let e : codes last (made blocks count (spare - count)) ≡ codes first from = rw (front, back) (append-nil (codes first from)) in
    record { lies = record { blocks = row.live; gap = omega arith; codes = subst AreCodes (sym e) lies.codes }; codes = e }

-- blocks that were live before some others were taken are none of these
pub apart_from_fresh : (pool : Pooled) (before after blocks : List ℕ) → OnlyFresh pool before after → AllLive pool blocks → Apart blocks before → Apart blocks after
apart_from_fresh pool before after [] fresh live apart = tt
apart_from_fresh pool before after (block ∷ blocks) fresh live apart =
    (fresh block live.0 apart.0, apart_from_fresh pool before after blocks fresh live.1 apart.1)

gone_elsewhere : (old new : Pooled) (blocks changed : List ℕ) → SameOutside changed old new → Apart blocks changed → AllGone old blocks → AllGone new blocks
gone_elsewhere old new [] changed same apart gone = tt
gone_elsewhere old new (block ∷ blocks) changed same apart gone =
    (same block apart.0 ∙ gone.0, gone_elsewhere old new blocks changed same apart.1 gone.1)

-- the blocks behind `rest` were given back
pub record Releasing (all rest : List ℕ) (first pool : Pooled) : Type 0 where
  pub given : List ℕ
  pub parts : all ≡ rest ++ given
  pub distinct : Distinct all
  pub here : AllLive pool rest
  pub gone : AllGone pool given
  pub others : SameOutside all first pool
  pub count : live pool + length all ≡ live first + length rest
  pub spare : pool.spare + length rest ≡ first.spare + length all

pub starts_releasing : (all : List ℕ) (pool : Pooled) → Distinct all → AllLive pool all → Releasing all all pool pool
starts_releasing all pool distinct here = record {
  given = [];
  parts = sym (append-nil all);
  distinct = distinct;
  here = here;
  gone = tt;
  others = λ number a. refl;
  count = refl;
  spare = refl;
}

pub last_is_live : (all blocks rest : List ℕ) (block : ℕ) (first pool : Pooled) → blocks ≡ rest ++ block ∷ [] → Releasing all blocks first pool → IsLive pool block
last_is_live all blocks rest block first pool e r = (live_split pool rest (block ∷ []) (subst (AllLive pool) e r.here)).1.0

pub releases_on : (all blocks rest : List ℕ) (block : ℕ) (first middle last : Pooled) → blocks ≡ rest ++ block ∷ [] → Releasing all blocks first middle
    → cells_at last block ≡ None → SameOthers middle last block → last.spare ≡ middle.spare + 1 → live last + 1 ≡ live middle → Releasing all rest first last
releases_on all blocks rest block first middle last e r gone same spare count =
    let parts : all ≡ rest ++ (block ∷ r.given) = r.parts ∙ ap (λ l. l ++ r.given) e ∙ append_assoc rest (block ∷ []) r.given in
    let split = distinct_split rest (block ∷ r.given) (subst Distinct parts r.distinct) in
    let absent : Absent block rest = (apart_sym rest (block ∷ r.given) split.2).0 in
    let outside : SameOutside (block ∷ []) middle last = λ number a. same number a.0 in
    let size : length blocks ≡ length rest + 1 = ap length e ∙ length-append rest (block ∷ []) in
    let spare_before : middle.spare + length blocks ≡ first.spare + length all = r.spare in
    let count_before : live middle + length all ≡ live first + length blocks = r.count in
    record {
      given = block ∷ r.given;
      parts = parts;
      distinct = r.distinct;
      here = live_elsewhere middle last rest (block ∷ []) outside (apart_sym (block ∷ []) rest (absent, tt)) (live_split middle rest (block ∷ []) (subst (AllLive middle) e r.here)).0;
      gone = (gone, gone_elsewhere middle last r.given (block ∷ []) outside (apart_sym (block ∷ []) r.given (split.1.0, tt)) r.gone);
      others = λ number a. same number (absent_split number rest (block ∷ r.given) (subst (Absent number) parts a)).1.0 ∙ r.others number a;
      count = omega arith;
      spare = omega arith;
    }

-- a text beside another one that got blocks
pub record Beside (first last : Pooled) (source : Gapped) (blocks : List ℕ) : Type 0 where
  pub apart : Apart source.blocks blocks
  pub same : SameText first last source source

pub beside : (first last : Pooled) (source : Gapped) (before after : List ℕ) → before ≡ [] → OnlyFresh first before after → SameOutside after first last → LiesIn first source → Beside first last source after
beside first last source before after none fresh others lies =
    let apart : Apart source.blocks after =
    apart_from_fresh first before after source.blocks fresh lies.blocks (subst (Apart source.blocks) (sym none) (apart_nil source.blocks)) in
    record { apart = apart; same = text_elsewhere first last source after others apart lies }

-- the text stays when the other one's cells change
pub still_beside : (first middle last : Pooled) (source : Gapped) (blocks : List ℕ) → Beside first middle source blocks → SameOutside blocks middle last → SameText first last source source
still_beside first middle last source blocks b others =
    let next = text_elsewhere middle last source blocks others b.apart b.same.lies in
    record { lies = next.lies; codes = next.codes ∙ b.same.codes }
