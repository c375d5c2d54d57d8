-- Each change of a buffer with what stands beside it.
use Rattle.std.proofs.Common.{◌≡◌, ℕ, ◌≤◌, Bool, true, List, [], ◌∷◌, length, refl, sym, ◌∙◌, arith}
use Rattle.std.specs.Prelude.{◌==◌, None}
use Rattle.text_model.specs.Properties.{PropEdit, Cell}
use Rattle.text_model.specs.Ordered.{AreOrdered, GivesOrdered}
use Rattle.text_model.specs.Undo.{Rec, Undo, trial, undone, passed, pass, pending, without_pending}
use Rattle.text_model.specs.Commit.{Buffer, Site, inserted, deleted, with_properties, property_records, no_pending, replaced, reset, undo_each, undone_groups}
use Rattle.text_model.proofs.Cases.{by_test}
use Rattle.machine_laws.specs.Good.{Falling}
use Rattle.machine_laws.specs.Fits.{GoodSite}
use Rattle.machine_laws.proofs.Groups.{trial-undone, falling-older, falling-groups}
use Rattle.machine_laws.proofs.OneBuffer.{passes_from_follows, passes_self, replaced_follows, reset_follows, undone_passes}
use Rattle.machine_laws.proofs.Fitting.{Fitting, fitting_self, inserted_fits, deleted_fits, properties_fits, each_fits}
use Rattle.machine_laws.proofs.GoodEditor.{Passes}

pub record SiteStep (id : ℕ) (site new : Site) : Type 0 where
  pub passes : Passes site.buffer new.buffer
  pub fitting : Fitting id site new

pub site_after : (id : ℕ) (site new : Site) → SiteStep id site new → GoodSite id new
site_after id site new s = record { good = s.passes.good; fits = s.fitting.fits }

pub site_stays : (id : ℕ) (site : Site) → GoodSite id site → SiteStep id site site
site_stays id site g = record { passes = passes_self site.buffer g.good; fitting = fitting_self id site g.fits }

-- the pending records dropped
dropped_fits : (id : ℕ) (site new : Site) → Fitting id site new → Fitting id site (no_pending new)
dropped_fits id site new f = record { fits = record { begin_fits = f.fits.begin_fits; end_fits = f.fits.end_fits; begin_to_point = f.fits.begin_to_point; point_to_end = f.fits.point_to_end; marks_fit = f.fits.marks_fit }; others = f.others; same_shapes = f.same_shapes }

pub replaced_step : (id from to : ℕ) (piece : List Cell) (all : Bool) (site : Site) → from ≤ to → to ≤ length site.buffer.text → AreOrdered piece → GoodSite id site → SiteStep id site (replaced id from to piece all site)
replaced_step id from to piece all site h k p g = record {
  passes = passes_from_follows _ _ (replaced_follows id from to piece all site h k p g.good);
  fitting = fits piece;
}
  where
    fits : (piece : List Cell) → Fitting id site (replaced id from to piece all site)
    fits [] = by_test (λ s. Fitting id site s) (from == to) site (no_pending (deleted id from to site)) (λ e. fitting_self id site g.fits) (λ e. dropped_fits id site (deleted id from to site) (deleted_fits id from to site h k g.fits))
    fits (c ∷ piece) = dropped_fits id site (inserted id from (c ∷ piece) all true site) (inserted_fits id from (c ∷ piece) all true site (omega arith) g.fits)

pub reset_step : (id : ℕ) (edit : PropEdit) (from to : ℕ) (site : Site) → from ≤ to → to ≤ length site.buffer.text → GivesOrdered edit → GoodSite id site → SiteStep id site (record site { buffer = reset edit from to site.buffer })
reset_step id edit from to site h k e g = record {
  passes = passes_from_follows _ _ (reset_follows edit from to site.buffer h e g.good);
  fitting = fits (property_records edit from to site.buffer.text);
}
  where
    c : Buffer
    c = with_properties edit from to site.buffer

    fits : (rs : List Rec) → Fitting id site (record site { buffer = elim rs [ [] ↦ site.buffer | r ∷ records ↦ record c { undo = without_pending c.undo } ] })
    fits [] = fitting_self id site g.fits
    fits (r ∷ rs) = dropped_fits id site (record site { buffer = c }) (properties_fits id edit from to site h k g.fits)

pub groups_step : (id n : ℕ) (site : Site) → GoodSite id site → trial site.buffer.begin site.buffer.end (undone n site.buffer.undo) ≡ None → SiteStep id site (undone_groups id (passed n site.buffer.undo) site)
groups_step id n site g t = record {
  passes = undone_passes id n site g.good g.fits.end_fits t;
  fitting = record { fits = f.fits; others = f.others; same_shapes = f.same_shapes };
}
  where
    u : Undo
    u = site.buffer.undo

    begun : Site
    begun = record site { buffer = record site.buffer { undo = pass (passed n u) u } }

    below : Falling u.pending_below (pending u)
    below = falling-older u.next u.pending_below u.entries g.good.falling

    f : Fitting id begun (undo_each id (passed n u) begun)
    f = each_fits id (passed n u) begun begun.buffer.begin begun.buffer.end u.pending_below (falling-groups n u.pending_below (pending u) below) (sym (trial-undone begun.buffer.begin begun.buffer.end (passed n u)) ∙ t) (omega arith, omega arith) g.good.ordered g.good.falling g.good.off
        (record { begin_fits = g.fits.begin_fits; end_fits = g.fits.end_fits; begin_to_point = g.fits.begin_to_point; point_to_end = g.fits.point_to_end; marks_fit = g.fits.marks_fit })

-- point lies between the bounds, and these in a text of some size
abbrev pub Bounds : Buffer → (size : ℕ) → Type 0
Bounds b size = (b.begin ≤ b.point) × (b.point ≤ b.end) × (b.end ≤ size)

pub site_bounds : (id : ℕ) (site : Site) → GoodSite id site → Bounds site.buffer (length site.buffer.text)
site_bounds id site g = (g.fits.begin_to_point, g.fits.point_to_end, g.fits.end_fits)

-- a change that leaves the text
pub same_step : (id : ℕ) (site : Site) (c : Buffer) → GoodSite id site → c.text ≡ site.buffer.text → Passes site.buffer c → Bounds c (length site.buffer.text) → SiteStep id site (record site { buffer = c })
same_step id site c g q p b = record {
  passes = p;
  fitting = record { fits = record { begin_fits = omega (arith, b.0, b.1); end_fits = rw q b.2; begin_to_point = b.0; point_to_end = b.1; marks_fit = rw q g.fits.marks_fit }; others = λ j n d h. h; same_shapes = refl };
}
