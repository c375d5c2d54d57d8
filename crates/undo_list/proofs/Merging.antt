-- A record put in front of others, and an insertion that extends the newest one.
use Rattle.std.proofs.Common.{◌≡◌, ℕ, true, List, [], ◌∷◌, sym, subst}
use Rattle.std.specs.Prelude.{◌==◌}
use Rattle.std.proofs.lemmas.Bool.{false≢true}
use Rattle.text_model.specs.Undo.{Rec, Boundary, Point, Inserted, Deleted, Prop, First, Moved, Entry, fits, in_front, extends, ends_at}
use Rattle.text_model.proofs.Cases.{if_true}
use Rattle.undo_list.specs.Records.{AreFalling}

-- what the newest record becomes
pub in_front-extended : (b p from to k serial : ℕ) (es : List Entry) → (p == from) ≡ true → in_front (Inserted from to) serial (record { what = Inserted b p; serial = k } ∷ es) ≡ record { what = Inserted b to; serial = k } ∷ es
in_front-extended b p from to k serial es h = if_true _ h

-- what holds of a list whose newest record was extended, if it held before
extended : (P : List Entry → Type 0) (r : Rec) (serial : ℕ) (es : List Entry) → extends r es ≡ true →
    ((b p to k : ℕ) (fs : List Entry) → P (record { what = Inserted b p; serial = k } ∷ fs) → P (record { what = Inserted b to; serial = k } ∷ fs)) → P es → P (in_front r serial es)
extended P r serial [] h more x = none r h
  where
    none : (s : Rec) → extends s [] ≡ true → P (in_front r serial [])
    none Boundary k = absurd (false≢true k)
    none (Point p) k = absurd (false≢true k)
    none (Inserted b p) k = absurd (false≢true k)
    none (Deleted piece p) k = absurd (false≢true k)
    none (Prop name old b p) k = absurd (false≢true k)
    none First k = absurd (false≢true k)
    none (Moved k a) l = absurd (false≢true l)
extended P Boundary serial (e ∷ es) h more x = absurd (false≢true h)
extended P (Point p) serial (e ∷ es) h more x = absurd (false≢true h)
extended P (Deleted piece p) serial (e ∷ es) h more x = absurd (false≢true h)
extended P (Prop name old b p) serial (e ∷ es) h more x = absurd (false≢true h)
extended P First serial (e ∷ es) h more x = absurd (false≢true h)
extended P (Moved k a) serial (e ∷ es) h more x = absurd (false≢true h)
extended P (Inserted from to) serial (e ∷ es) h more x = go e.what h x
  where
    go : (r : Rec) → ends_at from r ≡ true → P (record { what = r; serial = e.serial } ∷ es) → P (in_front (Inserted from to) serial (record { what = r; serial = e.serial } ∷ es))
    go Boundary h x = absurd (false≢true h)
    go (Point p) h x = absurd (false≢true h)
    go (Deleted piece p) h x = absurd (false≢true h)
    go (Prop name old b p) h x = absurd (false≢true h)
    go First h x = absurd (false≢true h)
    go (Moved k a) h x = absurd (false≢true h)
    go (Inserted b p) h x = subst P (sym (in_front-extended b p from to e.serial serial es h)) (more b p to e.serial es x)

pub extended-falling : (n : ℕ) (r : Rec) (serial : ℕ) (es : List Entry) → extends r es ≡ true → AreFalling n es → AreFalling n (in_front r serial es)
extended-falling n r serial es h f = extended (AreFalling n) r serial es h (λ b p to k fs x. x) f

pub extended-fits : (r : Rec) (serial : ℕ) (es : List Entry) → extends r es ≡ true → fits es ≡ true → fits (in_front r serial es) ≡ true
extended-fits r serial es h f = extended (λ l. fits l ≡ true) r serial es h (λ b p to k fs x. x) f
