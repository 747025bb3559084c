use Rattle.std.proofs.Common.{◌<◌, ◌∙◌, length, subst, sym, refl, arith}
use Rattle.std.specs.Prelude.{List, Some}
use Rattle.std.proofs.lemmas.Option.{slice_get_read}
use Rattle.search_line.specs.Lines.{Numbered, IsOn}
use Rattle.search_line.specs.KeptLine.{line_of}
use Rattle.search_line.proofs.Linking.{within, kept_at}
use Rattle.search_line.proofs.line.Line.after.Goals as goal

pub index-requires : goal.index-requires
index-requires c =
    let on : IsOn (line_of c.self.inside) c.args.number = subst (λ (z : List Numbered). IsOn z c.args.number) (sym c.self.view_is) c.requires in
    let lt : c.args.number < length c.self.inside.nodes.items = within c.self.inside.nodes.items (Some 0) (line_of c.self.inside) c.args.number on c.self.invariant.linked in
    omega (arith, c.self.inside.nodes.ok.0, lt)

pub returns : goal.returns
returns c front back node place =
    let on : IsOn (line_of c.self.inside) c.args.number = subst (λ (z : List Numbered). IsOn z c.args.number) (sym c.self.view_is) c.requires in
    let lt : c.args.number < length c.self.inside.nodes.items = within c.self.inside.nodes.items (Some 0) (line_of c.self.inside) c.args.number on c.self.invariant.linked in
    let there = slice_get_read c.self.inside.nodes.items (length c.self.inside.nodes.items) c.args.number c.index.result.now refl lt c.index.ensures in
    (kept_at c.self.inside.nodes.items (Some 0) (line_of c.self.inside) front back c.args.number node c.index.result.now c.self.invariant.linked (c.self.view_is ∙ place) there).0
