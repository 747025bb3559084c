use Rattle.std.proofs.Common.{Option, Some, None}
use Rattle.std.specs.Prelude.{MatchOption, IfSome, IfNone}
use Rattle.std.proofs.lemmas.Bool.Decides.{Decides-eqb}
use Rattle.std.proofs.lemmas.Slice.Eq.{strip_prefix_is}
use Rattle.cert_tree.proofs.fields.behind.Goals as goal

at_some : {T : Type 0} (o : Option T) (N : Type 0) (P : T → Type 0) → MatchOption o N P → IfSome o P
at_some None N P h = tt
at_some (Some x) N P h = h

at_none : {T : Type 0} (o : Option T) (N : Type 0) (P : T → Type 0) → MatchOption o N P → IfNone o N
at_none None N P h = h
at_none (Some x) N P h = tt

pub returns-clause-some : goal.returns-clause-some
returns-clause-some c = at_some c.strip_prefix.result _ _ (strip_prefix_is Decides-eqb c.args.text.now c.args.bytes.now c.strip_prefix.result c.strip_prefix.ensures.cases)

pub returns-clause-none : goal.returns-clause-none
returns-clause-none c = at_none c.strip_prefix.result _ _ (strip_prefix_is Decides-eqb c.args.text.now c.args.bytes.now c.strip_prefix.result c.strip_prefix.ensures.cases)
