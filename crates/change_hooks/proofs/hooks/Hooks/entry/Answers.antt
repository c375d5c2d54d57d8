use Rattle.std.proofs.Common.{◌≡◌, ◌<◌, ◌++◌, [], ◌∷◌, false, length, map, ap, sym, ◌∙◌, subst, arith}
use Rattle.std.specs.Prelude.{Some}
use Rattle.std.specs.List.{list_any, position}
use Rattle.std.proofs.lemmas.List.{length-map}
use Rattle.editor_model.specs.Limits.{most_buffers}
use Rattle.plain_machine.specs.State.{no_hooks, with_hooks, hooks_of}
use Rattle.change_hooks.specs.Hooked.{Hooked}
use Rattle.change_hooks.specs.Lists.{is_of, entry_of, AreKept}
use Rattle.change_hooks.proofs.Buffers.{same_found, none_there, hooks_absent, with_absent, last, kept_with, room_left}
use Rattle.change_hooks.proofs.Written.{kept_as, entry_pushed}
use Rattle.change_hooks.proofs.hooks.Hooks.entry.Goals as goal

pub returns-in-Some-clause-hooks : goal.returns-in-Some-clause-hooks
returns-in-Some-clause-hooks c =
    let at : position (is_of c.args.buffer) c.args.self.now.lists ≡ Some c.in-Some.i = sym c.place.ensures ∙ c.in-Some.is in
    ap (λ l. kept_as l c.args.self.now.inhibited) (sym (same_found c.args.buffer c.args.self.now.lists c.in-Some.i at))

pub push_reserved-requires : goal.push_reserved-requires
push_reserved-requires c =
    let seen : map entry_of c.self.inside.buffers.items ≡ c.args.self.now.lists = ap (λ (v : Hooked). v.lists) c.self.view_is in
    let none : list_any (is_of c.args.buffer) (map entry_of c.self.inside.buffers.items) ≡ false = ap (list_any (is_of c.args.buffer)) seen ∙ none_there c.args.buffer c.args.self.now.lists (sym c.place.ensures ∙ c.in_default.is) in
    let room : length (map entry_of c.self.inside.buffers.items) < most_buffers = room_left c.args.buffer (map entry_of c.self.inside.buffers.items) c.requires c.self.invariant.0 none in
    omega (arith, room, length-map c.self.inside.buffers.items entry_of, c.self.invariant.1)

pub invariant_of-self : goal.invariant_of-self
invariant_of-self c =
    let seen : map entry_of c.self.inside.buffers.items ≡ c.args.self.now.lists = ap (λ (v : Hooked). v.lists) c.self.view_is in
    let none : list_any (is_of c.args.buffer) (map entry_of c.self.inside.buffers.items) ≡ false = ap (list_any (is_of c.args.buffer)) seen ∙ none_there c.args.buffer c.args.self.now.lists (sym c.place.ensures ∙ c.in_default.is) in
    let more = entry_pushed c.self.inside.buffers.items c.push_reserved.new.self.items c.args.buffer c.new.result c.push_reserved.ensures.items c.new.ensures in
    let with = with_absent c.args.buffer no_hooks (map entry_of c.self.inside.buffers.items) none in (
      subst AreKept (with ∙ sym more) (kept_with c.args.buffer no_hooks (map entry_of c.self.inside.buffers.items) c.requires (omega arith) (omega arith) c.self.invariant.0),
      omega (arith, c.push_reserved.ensures.capacity, c.self.invariant.1),
      c.self.invariant.2,
    )

pub returns-clause-place : goal.returns-clause-place
returns-clause-place c =
    let seen : map entry_of c.self.inside.buffers.items ≡ c.args.self.now.lists = ap (λ (v : Hooked). v.lists) c.self.view_is in
    let none : list_any (is_of c.args.buffer) (map entry_of c.self.inside.buffers.items) ≡ false = ap (list_any (is_of c.args.buffer)) seen ∙ none_there c.args.buffer c.args.self.now.lists (sym c.place.ensures ∙ c.in_default.is) in
    let more = entry_pushed c.self.inside.buffers.items c.push_reserved.new.self.items c.args.buffer c.new.result c.push_reserved.ensures.items c.new.ensures in
    let len : length (map entry_of c.self.inside.buffers.items) ≡ c.len-i.result = omega (arith, length-map c.self.inside.buffers.items entry_of, c.len-i.ensures) in
    ap (position (is_of c.args.buffer)) more ∙ last c.args.buffer no_hooks (map entry_of c.self.inside.buffers.items) none ∙ ap Some len

pub returns-clause-hooks : goal.returns-clause-hooks
returns-clause-hooks c =
    let seen : map entry_of c.self.inside.buffers.items ≡ c.args.self.now.lists = ap (λ (v : Hooked). v.lists) c.self.view_is in
    let none : list_any (is_of c.args.buffer) c.args.self.now.lists ≡ false = none_there c.args.buffer c.args.self.now.lists (sym c.place.ensures ∙ c.in_default.is) in
    let more = entry_pushed c.self.inside.buffers.items c.push_reserved.new.self.items c.args.buffer c.new.result c.push_reserved.ensures.items c.new.ensures in
    let all : map entry_of c.push_reserved.new.self.items ≡ with_hooks c.args.buffer (hooks_of c.args.self.now.lists c.args.buffer) c.args.self.now.lists =
    more ∙ ap (λ l. l ++ (c.args.buffer, no_hooks) ∷ []) seen ∙ sym (with_absent c.args.buffer no_hooks c.args.self.now.lists none) ∙ ap (λ l. with_hooks c.args.buffer l c.args.self.now.lists) (sym (hooks_absent c.args.buffer c.args.self.now.lists none)) in
    ap (λ l. kept_as l c.self.inside.inhibited) all ∙ ap (λ (v : Hooked). kept_as (with_hooks c.args.buffer (hooks_of c.args.self.now.lists c.args.buffer) c.args.self.now.lists) v.inhibited) c.self.view_is
