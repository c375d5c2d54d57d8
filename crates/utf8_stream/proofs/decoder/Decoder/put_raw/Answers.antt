use Rattle.std.proofs.Common.{◌++◌, ◌∙◌, ap, sym, length, map, arith}
use Rattle.std.proofs.lemmas.List.{length-map}
use Rattle.text_model.specs.Characters.{Raw}
use Rattle.utf8_stream.proofs.Returns.{raw_held, held_tail}
use Rattle.utf8_stream.proofs.decoder.Decoder.put_raw.Goals as goal

pub put_raw-requires-clause-part : goal.put_raw-requires-clause-part
put_raw-requires-clause-part c =
    rw c.held.ensures.held (held_tail c.args.self.now.coding c.args.self.now.bytes c.held.ensures.tail c.requires.part)

pub returns-clause-items : goal.returns-clause-items
returns-clause-items c =
    c.put_raw.ensures.items
    ∙ ap (λ y. c.args.out.now.items ++ map Raw y) c.held.ensures.held
    ∙ ap (λ y. c.args.out.now.items ++ y) (sym (raw_held c.args.self.now.coding c.args.self.now.bytes c.held.ensures.tail c.requires.part))

pub returns-clause-spare : goal.returns-clause-spare
returns-clause-spare c =
    omega (arith, c.put_raw.ensures.spare, ap length (raw_held c.args.self.now.coding c.args.self.now.bytes c.held.ensures.tail c.requires.part), length-map c.args.self.now.bytes Raw, ap length c.held.ensures.held)
