use Rattle.std.proofs.Common.{◌+◌, Bor, drop, refl}
use Rattle.std.specs.Prelude.{option_map}
use Rattle.text_model.specs.Commit.{moves_behind, with_properties}
use Rattle.ek_types.specs.Property.{prop_of}
use Rattle.ek_types.specs.declared.property.PropVal.{PropVal}
use Rattle.buffer_core.specs.Meaning.{buffer_of, site_of}
use Rattle.buffer_core.specs.Undoing.{value_back}
use Rattle.buffer_core.proofs.UndoLemmas.{is_refused, site_given, site_refused, undone_prop, value_behind}
use Rattle.buffer_core.proofs.buffer.Buffer.undo_one.Goals as goal

pub returns-in-Inserted-clause-site : goal.returns-in-Inserted-clause-site
returns-in-Inserted-clause-site c = rw (c.at.ensures, c.in-Inserted.is) c.take_out.ensures.site

pub returns-in-Inserted-clause-change : goal.returns-in-Inserted-clause-change
returns-in-Inserted-clause-change c = rw (c.at.ensures, c.in-Inserted.is) (is_refused c.take_out.result)

pub returns-in-Deleted-clause-site : goal.returns-in-Deleted-clause-site
returns-in-Deleted-clause-site c = rw (c.at.ensures, c.in-Deleted.is) c.put_back.ensures.site

pub returns-in-Deleted-clause-change : goal.returns-in-Deleted-clause-change
returns-in-Deleted-clause-change c = rw (c.at.ensures, c.in-Deleted.is) (is_refused c.put_back.result)

pub returns-in-Prop-clause-site : goal.returns-in-Prop-clause-site
returns-in-Prop-clause-site c =
    let old = option_map (λ (v : Bor PropVal). prop_of v.now) c.as_ref.result in
    let behind = moves_behind (drop (c.args.i + 1) c.args.records.now.state.entries) in
    let site = site_of c.args.pool.now c.args.self.now c.args.marks.now in
    rw (c.at.ensures, c.in-Prop.is, ← c.as_ref.ensures.value, value_behind prop_of c.as_ref.result, ← undone_prop c.args.id c.in-Prop.name.0 old c.in-Prop.from c.in-Prop.to behind site)
    (site_given c.give_back.result (with_properties (value_back c.in-Prop.name.0 old) c.in-Prop.from c.in-Prop.to site.buffer) (buffer_of c.args.pool.now c.give_back.new.self) c.args.marks.now (c.give_back.ensures.ok c.args.pool.now c.requires.lies))

pub returns-in-Prop-clause-err : goal.returns-in-Prop-clause-err
returns-in-Prop-clause-err c =
    site_refused c.give_back.result (buffer_of c.args.pool.now c.args.self.now) (buffer_of c.args.pool.now c.give_back.new.self) c.args.marks.now (c.give_back.ensures.err c.args.pool.now)

pub returns-in-Prop-clause-change : goal.returns-in-Prop-clause-change
returns-in-Prop-clause-change c = rw (c.at.ensures, c.in-Prop.is) (is_refused c.give_back.result)

pub returns-in-Point-clause-site : goal.returns-in-Point-clause-site
returns-in-Point-clause-site c = rw (c.at.ensures, c.in-Point.is, c.set_point.ensures) refl

pub returns-in-First-clause-site : goal.returns-in-First-clause-site
returns-in-First-clause-site c = rw (c.at.ensures, c.in-First.is, ← c.self.view_is) refl
