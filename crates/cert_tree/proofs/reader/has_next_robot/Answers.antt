use Rattle.std.proofs.Common.{ℕ, ◌≡◌, ◌+◌, ◌-◌, List, length, get_or, map, sym, ◌∙◌, ap, arith}
use Rattle.std.proofs.lemmas.Bool.{lt-ltb, ltb-true}
use Rattle.std.proofs.lemmas.List.{get_or-map}
use Rattle.cert_tree.specs.declared.node.CertPath.{CertPath}
use Rattle.cert_tree.proofs.reader.has_next_robot.Goals as goal

last_robot : (paths : List CertPath) (last : CertPath) (k : ℕ) → last ≡ get_or paths (length paths - 1) last → k + 1 ≡ length paths → get_or (map (λ (p : CertPath). p.robot) paths) k 0 ≡ last.robot
last_robot paths last k is e =
    let place : k ≡ length paths - 1 = omega (arith, e) in
    get_or-map (λ (p : CertPath). p.robot) paths k last 0 (omega (arith, e)) ∙ ap (λ i. (get_or paths i last).robot) place ∙ ap (λ (p : CertPath). p.robot) (sym is)

pub returns-in-Some : goal.returns-in-Some
returns-in-Some c =
    let paths = c.args.paths.now in
    let last = c.in-Some.last.now in
    let robot = c.args.path.now.robot in
    let item = c.in-Some.ensures.item in
    let whole : length paths - 1 + 1 ≡ length paths = omega (arith, item.3.0) in
    (λ test k e. omega (arith, ltb-true last.robot robot test, last_robot paths last k item.1 e), λ next. lt-ltb last.robot robot (omega (arith, next (length paths - 1) whole, last_robot paths last (length paths - 1) item.1 whole)))
