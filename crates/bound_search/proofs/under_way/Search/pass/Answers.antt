use Rattle.std.proofs.Common.{◌-◌, List, sym, subst, ◌∙◌, arith}
use Rattle.order_choice.specs.Searching.{IsMadeRight}
use Rattle.search_line.specs.Lines.{Numbered}
use Rattle.bound_search.specs.declared.writing.Walk.{Walk}
use Rattle.bound_search.specs.Walking.{IsWalked}
use Rattle.bound_search.proofs.Walks.{here, is_at, some_to_come, walked_more, walked_same}
use Rattle.bound_search.proofs.under_way.Search.pass.Goals as goal

pub returns-clause-walked : goal.returns-clause-walked
returns-clause-walked c =
    let s = c.args.self.now in
    let n = c.take.new.self in
    let old = c.args.walk.now in
    let new : Walk = record { next = c.after-walk.result; to_come = old.to_come - 1; left_out = c.in_ok-walk.field-0; cert = c.take.new.cert } in
    let e = c.in_ok-walk.ensures in
    let w = walked_same s.maker n.maker s.line old e.best.graph e.best.state e.best.cost c.requires.walked in
    let h = here n.maker s.line old c.args.number (IsMadeRight s.maker.graph s.maker.state) c.requires.under_way.searched.right w c.requires.next in
    let next = c.after-walk.ensures h.front h.back h.node (e.line ∙ h.place) in
    let some = some_to_come n.maker s.line old c.args.number h in
    subst (λ (l : List Numbered). IsWalked n.maker l new) (sym e.line)
    (walked_more n.maker s.line old new c.args.number h (e.taken h.node h.way (is_at n.maker s.line old c.args.number h)) next (omega (arith, some)))
