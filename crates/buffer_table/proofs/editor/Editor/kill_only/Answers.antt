use Rattle.std.proofs.Common.{◌≡◌, ◌+◌, ◌<◌, ◌++◌, true, List, [], ◌∷◌, length, sym, ap, subst, ◌∙◌, Option, Some, None, arith}
use Rattle.std.specs.Prelude.{slice_set, option_map}
use Rattle.std.proofs.lemmas.List.{length-map}
use Rattle.text_model.specs.Marks.{Marks}
use Rattle.text_model.specs.PropertyQuestions.{first}
use Rattle.editor_model.specs.Editor as shown
use Rattle.editor_model.specs.Editor.{live_from}
use Rattle.text_pool.specs.Pool.{live}
use Rattle.buffer_table.specs.Kept.{Named, Kept, Lives, IsKept, is_live, named_at, live_of, editor_of}
use Rattle.buffer_table.proofs.KeptLemmas.{some_lives, held, live_in, named_is}
use Rattle.buffer_table.proofs.Closing.{lives_still}
use Rattle.buffer_table.proofs.Removing.{GivesBack, gives_back, entry_lies, instead, kept_instead, editor_instead}
use Rattle.buffer_table.proofs.editor.Editor.kill_only.Goals as goal

pub release-requires : goal.release-requires
release-requires c =
    let kept : Kept = record { buffers = c.self.inside.buffers.items; current = c.self.inside.current; marks = c.self.inside.marks; registers = c.self.inside.registers.items; pool = c.self.inside.pool; lifted = c.self.inside.lifted } in
    let new : Named = c.new-new.result in
    let items : c.push_reserved.new.self.items ≡ c.self.inside.buffers.items ++ Some new ∷ [] = c.push_reserved.ensures.items ∙ ap (λ (bs : List (Option Named)). bs ++ Some new ∷ []) c.in_ok-reserve.ensures.items in
    let was : is_live c.self.inside.buffers.items c.args.only ≡ true = live_in kept c.args.only (ap (λ (k : Kept). shown.is_live (editor_of k) c.args.only) c.self.view_is ∙ c.requires.live) in
    let found : (n : Named) × Lives c.self.inside.buffers.items c.args.only n = some_lives c.self.inside.buffers.items c.args.only was in
    let n : Named = found.0 in
    let here : Lives c.self.inside.buffers.items c.args.only n = found.1 in
    let still : Lives c.push_reserved.new.self.items c.args.only n = subst (λ (bs : List (Option Named)). Lives bs c.args.only n) (sym items) (lives_still c.self.inside.buffers.items (Some new) c.args.only n here) in
    let is : c.replace-killed.result ≡ Some n = c.replace-killed.ensures.value ∙ held c.push_reserved.new.self.items c.args.only c.index_mut.result.now n still c.index_mut.ensures.value in
    entry_lies kept c.replace-killed.result c.args.only n c.self.invariant here is

pub invariant_of-self-2 : goal.invariant_of-self-2
invariant_of-self-2 c =
    let kept : Kept = record { buffers = c.self.inside.buffers.items; current = c.self.inside.current; marks = c.self.inside.marks; registers = c.self.inside.registers.items; pool = c.self.inside.pool; lifted = c.self.inside.lifted } in
    let new : Named = c.new-new.result in
    let items : c.push_reserved.new.self.items ≡ c.self.inside.buffers.items ++ Some new ∷ [] = c.push_reserved.ensures.items ∙ ap (λ (bs : List (Option Named)). bs ++ Some new ∷ []) c.in_ok-reserve.ensures.items in
    let was : is_live c.self.inside.buffers.items c.args.only ≡ true = live_in kept c.args.only (ap (λ (k : Kept). shown.is_live (editor_of k) c.args.only) c.self.view_is ∙ c.requires.live) in
    let found : (n : Named) × Lives c.self.inside.buffers.items c.args.only n = some_lives c.self.inside.buffers.items c.args.only was in
    let n : Named = found.0 in
    let here : Lives c.self.inside.buffers.items c.args.only n = found.1 in
    let still : Lives c.push_reserved.new.self.items c.args.only n = subst (λ (bs : List (Option Named)). Lives bs c.args.only n) (sym items) (lives_still c.self.inside.buffers.items (Some new) c.args.only n here) in
    let is : c.replace-killed.result ≡ Some n = c.replace-killed.ensures.value ∙ held c.push_reserved.new.self.items c.args.only c.index_mut.result.now n still c.index_mut.ensures.value in
    let back : GivesBack n.buffer.text.blocks c.self.inside.pool c.release.new.pool = gives_back c.replace-killed.result n c.self.inside.pool c.release.new.pool is c.release.ensures.others c.release.ensures.count in
    let only : None ≡ first (live_from 0 (slice_set (editor_of kept).buffers c.args.only None)) = c.requires.alone ∙ ap (λ (k : Kept). first (live_from 0 (slice_set (editor_of k).buffers c.args.only None))) (sym c.self.view_is) in
    let few : length c.self.inside.buffers.items < 256 = omega (arith, c.requires.room, ap (λ (k : Kept). length (editor_of k).buffers) c.self.view_is, length-map c.self.inside.buffers.items (option_map (live_of c.self.inside.pool))) in
    let number : c.len-number.result ≡ length c.self.inside.buffers.items = omega (arith, c.len-number.ensures, c.reserve.new.self.ok.0, ap (λ (bs : List (Option Named)). length bs) c.in_ok-reserve.ensures.items) in
    let parts : (slice_set c.push_reserved.new.self.items c.args.only c.replace-killed.new.dest ≡ slice_set (c.self.inside.buffers.items ++ Some new ∷ []) c.args.only None) = ap (λ (bs : List (Option Named)). slice_set bs c.args.only c.replace-killed.new.dest) items ∙ ap (λ (o : Option Named). slice_set (c.self.inside.buffers.items ++ Some new ∷ []) c.args.only o) c.replace-killed.ensures.after in
    let final : IsKept (instead kept c.args.only new c.release.new.pool) = kept_instead kept c.args.only n new c.release.new.pool c.self.invariant here only back few c.new-new.ensures.blocks c.new-new.ensures.sets (c.new-new.ensures.lies c.release.new.pool) in
    subst (λ (bs : List (Option Named)). IsKept (record { buffers = bs; current = c.len-number.result; marks = c.drop_buffer.new.self; registers = c.self.inside.registers.items; pool = c.release.new.pool; lifted = c.self.inside.lifted })) (sym parts)
    (subst (λ (m : Marks). IsKept (record { buffers = slice_set (c.self.inside.buffers.items ++ Some new ∷ []) c.args.only None; current = c.len-number.result; marks = m; registers = c.self.inside.registers.items; pool = c.release.new.pool; lifted = c.self.inside.lifted })) (sym c.drop_buffer.ensures)
    (subst (λ i. IsKept (record (instead kept c.args.only new c.release.new.pool) { current = i })) (sym number) final))

pub returns-clause-ok : goal.returns-clause-ok
returns-clause-ok c =
    let kept : Kept = record { buffers = c.self.inside.buffers.items; current = c.self.inside.current; marks = c.self.inside.marks; registers = c.self.inside.registers.items; pool = c.self.inside.pool; lifted = c.self.inside.lifted } in
    let new : Named = c.new-new.result in
    let items : c.push_reserved.new.self.items ≡ c.self.inside.buffers.items ++ Some new ∷ [] = c.push_reserved.ensures.items ∙ ap (λ (bs : List (Option Named)). bs ++ Some new ∷ []) c.in_ok-reserve.ensures.items in
    let was : is_live c.self.inside.buffers.items c.args.only ≡ true = live_in kept c.args.only (ap (λ (k : Kept). shown.is_live (editor_of k) c.args.only) c.self.view_is ∙ c.requires.live) in
    let found : (n : Named) × Lives c.self.inside.buffers.items c.args.only n = some_lives c.self.inside.buffers.items c.args.only was in
    let n : Named = found.0 in
    let here : Lives c.self.inside.buffers.items c.args.only n = found.1 in
    let still : Lives c.push_reserved.new.self.items c.args.only n = subst (λ (bs : List (Option Named)). Lives bs c.args.only n) (sym items) (lives_still c.self.inside.buffers.items (Some new) c.args.only n here) in
    let is : c.replace-killed.result ≡ Some n = c.replace-killed.ensures.value ∙ held c.push_reserved.new.self.items c.args.only c.index_mut.result.now n still c.index_mut.ensures.value in
    let back : GivesBack n.buffer.text.blocks c.self.inside.pool c.release.new.pool = gives_back c.replace-killed.result n c.self.inside.pool c.release.new.pool is c.release.ensures.others c.release.ensures.count in
    let only : None ≡ first (live_from 0 (slice_set (editor_of kept).buffers c.args.only None)) = c.requires.alone ∙ ap (λ (k : Kept). first (live_from 0 (slice_set (editor_of k).buffers c.args.only None))) (sym c.self.view_is) in
    let few : length c.self.inside.buffers.items < 256 = omega (arith, c.requires.room, ap (λ (k : Kept). length (editor_of k).buffers) c.self.view_is, length-map c.self.inside.buffers.items (option_map (live_of c.self.inside.pool))) in
    let number : c.len-number.result ≡ length c.self.inside.buffers.items = omega (arith, c.len-number.ensures, c.reserve.new.self.ok.0, ap (λ (bs : List (Option Named)). length bs) c.in_ok-reserve.ensures.items) in
    let parts : (slice_set c.push_reserved.new.self.items c.args.only c.replace-killed.new.dest ≡ slice_set (c.self.inside.buffers.items ++ Some new ∷ []) c.args.only None) = ap (λ (bs : List (Option Named)). slice_set bs c.args.only c.replace-killed.new.dest) items ∙ ap (λ (o : Option Named). slice_set (c.self.inside.buffers.items ++ Some new ∷ []) c.args.only o) c.replace-killed.ensures.after in
    ap (λ (bs : List (Option Named)). let k : Kept = record { buffers = bs; current = c.len-number.result; marks = c.drop_buffer.new.self; registers = c.self.inside.registers.items; pool = c.release.new.pool; lifted = c.self.inside.lifted } in editor_of k) parts
    ∙ ap (λ (m : Marks). let k : Kept = record { buffers = slice_set (c.self.inside.buffers.items ++ Some new ∷ []) c.args.only None; current = c.len-number.result; marks = m; registers = c.self.inside.registers.items; pool = c.release.new.pool; lifted = c.self.inside.lifted } in editor_of k) c.drop_buffer.ensures
    ∙ ap (λ i. editor_of (record (instead kept c.args.only new c.release.new.pool) { current = i })) number
    ∙ editor_instead kept c.args.only n c.in_ok-name.name.items c.new-new.result c.release.new.pool c.self.invariant here only back (c.new-new.ensures.shown c.release.new.pool) c.in_ok-name.ensures
    ∙ ap (λ (k : Kept). shown.killed c.args.only (editor_of k)) c.self.view_is

pub returns-clause-blocks : goal.returns-clause-blocks
returns-clause-blocks c =
    let kept : Kept = record { buffers = c.self.inside.buffers.items; current = c.self.inside.current; marks = c.self.inside.marks; registers = c.self.inside.registers.items; pool = c.self.inside.pool; lifted = c.self.inside.lifted } in
    let new : Named = c.new-new.result in
    let items : c.push_reserved.new.self.items ≡ c.self.inside.buffers.items ++ Some new ∷ [] = c.push_reserved.ensures.items ∙ ap (λ (bs : List (Option Named)). bs ++ Some new ∷ []) c.in_ok-reserve.ensures.items in
    let was : is_live c.self.inside.buffers.items c.args.only ≡ true = live_in kept c.args.only (ap (λ (k : Kept). shown.is_live (editor_of k) c.args.only) c.self.view_is ∙ c.requires.live) in
    let found : (n : Named) × Lives c.self.inside.buffers.items c.args.only n = some_lives c.self.inside.buffers.items c.args.only was in
    let n : Named = found.0 in
    let here : Lives c.self.inside.buffers.items c.args.only n = found.1 in
    let still : Lives c.push_reserved.new.self.items c.args.only n = subst (λ (bs : List (Option Named)). Lives bs c.args.only n) (sym items) (lives_still c.self.inside.buffers.items (Some new) c.args.only n here) in
    let is : c.replace-killed.result ≡ Some n = c.replace-killed.ensures.value ∙ held c.push_reserved.new.self.items c.args.only c.index_mut.result.now n still c.index_mut.ensures.value in
    let back : GivesBack n.buffer.text.blocks c.self.inside.pool c.release.new.pool = gives_back c.replace-killed.result n c.self.inside.pool c.release.new.pool is c.release.ensures.others c.release.ensures.count in
    ap (λ (k : Kept). live c.release.new.pool + length (named_at k.buffers c.args.only).buffer.text.blocks) (sym c.self.view_is)
    ∙ ap (λ (m : Named). live c.release.new.pool + length m.buffer.text.blocks) (named_is c.self.inside.buffers.items c.args.only n here)
    ∙ back.count ∙ ap (λ (k : Kept). live k.pool) c.self.view_is
