use Rattle.std.proofs.Common.{ap, sym, ◌∙◌}
use Rattle.std.specs.List.{list_all}
use Rattle.std.proofs.lemmas.List.Folds.{list_all-map}
use Rattle.plain_machine.specs.Natives.{is_symbol_there, prop_was_made}
use Rattle.ek_types.specs.Listing.{items_of}
use Rattle.ek_types.specs.Property.{number_of, prop_of}
use Rattle.ek_types.specs.declared.symbol.Sym.{Sym}
use Rattle.handler_code.specs.Counts.{program_with}
use Rattle.handler_code.proofs.made.Made.has_property.Goals as goal

pub returns-in-Syms : goal.returns-in-Syms
returns-in-Syms c =
    c.has_symbols.ensures
    ∙ ap (list_all (λ (n : Sym). is_symbol_there (program_with c.args.self.now) n.0)) c.as_slice.ensures
    ∙ sym (list_all-map (is_symbol_there (program_with c.args.self.now)) number_of (items_of c.in-Syms.names))
    ∙ ap (λ v. prop_was_made (program_with c.args.self.now) (prop_of v)) (sym c.in-Syms.is)
