-- A header that is read has these bytes as its payload, and each header is read from its payload.
use Rattle.std.proofs.Common.{◌≡◌, ℕ, zero, suc, ◌^◌, ◌<◌, cond, Bool, true, false, ◌&&◌, eqb, eq-eqb, nat_eq, List, [], ◌∷◌, ◌++◌, length, drop, Option, Some, None, refl, sym, ap, subst, ◌∙◌, arith}
use Rattle.std.specs.Int.{w64, to_be_bytes}
use Rattle.std.specs.List.{starts_with}
use Rattle.std.proofs.lemmas.Bool.{eqb-true}
use Rattle.std.proofs.lemmas.Bool.Decides.{Decides-eqb}
use Rattle.std.proofs.lemmas.Slice.Eq.{starts_is}
use Rattle.journal_frame.specs.declared.header.HeaderParts.{HeaderParts}
use Rattle.journal_frame.specs.Texts.{sized}
use Rattle.journal_frame.specs.Headers.{magic, tagged, header_payload, IsHeader}
use Rattle.journal_frame.specs.Reading.{◌>>=◌, number_at, text_at, after_magic, is_tag_0, header_of}
use Rattle.journal_frame.proofs.FieldLaws.{IsBytes, IsBytes-drop, bind_some, some_is, guard_yes, Takes, after, long_takes, long_again, text_takes, text_again}

-- a header with no summary
abbrev first_header : ℕ → List ℕ → List ℕ → HeaderParts
first_header generation map plan = record { generation = generation; map = map; plan = plan; summary = None }

-- what the two tests at the end of a header say
tests_say : (generation : ℕ) (bytes : List ℕ) → ((eqb generation 1) && is_tag_0 bytes) ≡ true → (generation ≡ 1) × (bytes ≡ 0 ∷ [])
tests_say generation bytes e = let both = and_true (eqb generation 1) (is_tag_0 bytes) e in (eqb-true _ _ both.0, tag_is bytes both.1)
  where
    and_true : (a b : Bool) → (a && b) ≡ true → (a ≡ true) × (b ≡ true)
    and_true true b e = (refl, e)
    and_true false b e = absurd cc

    tag_is : (l : List ℕ) → is_tag_0 l ≡ true → l ≡ 0 ∷ []
    tag_is [] e = absurd cc
    tag_is (zero ∷ []) e = refl
    tag_is (suc tag ∷ []) e = absurd (omega (arith, eqb-true (suc tag) 0 (and_true true (eqb (suc tag) 0) e).1))
    tag_is (tag ∷ byte ∷ l) e = let both = and_true (eqb (length (tag ∷ byte ∷ l)) 1) (eqb tag 0) e in absurd (omega (arith, eqb-true _ _ both.0))

magic_takes : (bytes rest : List ℕ) → IsBytes bytes → after_magic bytes ≡ Some rest → Takes bytes magic rest
unfolding after_magic
magic_takes bytes rest fits e =
    let g = guard_yes (starts_with nat_eq bytes magic) (Some (drop 5 bytes)) rest e in
    let whole : bytes ≡ magic ++ drop 5 bytes = (starts_is Decides-eqb bytes magic (starts_with nat_eq bytes magic) refl).0 g.0 in
    subst (λ (r : List ℕ). Takes bytes magic r) (some_is (drop 5 bytes) rest g.1) (record { parts = whole; rest_fits = IsBytes-drop 5 bytes fits })

magic_again : (rest : List ℕ) → after_magic (magic ++ rest) ≡ Some rest
unfolding after_magic
magic_again rest = refl

pub header_takes : (bytes : List ℕ) (h : HeaderParts) → IsBytes bytes → header_of bytes ≡ Some h → IsHeader bytes h
unfolding header_of header_payload
header_takes bytes h fits e =
    let z = bind_some (after_magic bytes) (λ rest. number_at w64 rest >>= λ generation. text_at generation.1 >>= λ map. text_at map.1 >>= λ plan. cond (eqb generation.0 1 && is_tag_0 plan.1) (Some (first_header generation.0 map.0 plan.0)) None) h e in
    let a = bind_some (number_at w64 z.0) (λ generation. text_at generation.1 >>= λ map. text_at map.1 >>= λ plan. cond (eqb generation.0 1 && is_tag_0 plan.1) (Some (first_header generation.0 map.0 plan.0)) None) h z.2 in
    let b = bind_some (text_at a.0.1) (λ map. text_at map.1 >>= λ plan. cond (eqb a.0.0 1 && is_tag_0 plan.1) (Some (first_header a.0.0 map.0 plan.0)) None) h a.2 in
    let c = bind_some (text_at b.0.1) (λ plan. cond (eqb a.0.0 1 && is_tag_0 plan.1) (Some (first_header a.0.0 b.0.0 plan.0)) None) h b.2 in
    let g = guard_yes (eqb a.0.0 1 && is_tag_0 c.0.1) (Some (first_header a.0.0 b.0.0 c.0.0)) h c.2 in
    let w = tests_say a.0.0 c.0.1 g.0 in
    let t0 = magic_takes bytes z.0 fits z.1 in
    let t1 = long_takes z.0 a.0.0 a.0.1 t0.rest_fits a.1 in
    let t2 = text_takes a.0.1 b.0.0 b.0.1 t1.0.rest_fits b.1 in
    let t3 = text_takes b.0.1 c.0.0 c.0.1 t2.0.rest_fits c.1 in
    let from_plan : b.0.1 ≡ sized c.0.0 ++ 0 ∷ [] = after b.0.1 (sized c.0.0) c.0.1 (0 ∷ []) t3.0 w.1 in
    let from_map : a.0.1 ≡ sized b.0.0 ++ (sized c.0.0 ++ 0 ∷ []) = after a.0.1 (sized b.0.0) b.0.1 (sized c.0.0 ++ 0 ∷ []) t2.0 from_plan in
    let from_generation : z.0 ≡ to_be_bytes w64 a.0.0 ++ (sized b.0.0 ++ (sized c.0.0 ++ 0 ∷ [])) = after z.0 (to_be_bytes w64 a.0.0) a.0.1 (sized b.0.0 ++ (sized c.0.0 ++ 0 ∷ [])) t1.0 from_map in
    let whole : bytes ≡ magic ++ (to_be_bytes w64 a.0.0 ++ (sized b.0.0 ++ (sized c.0.0 ++ 0 ∷ []))) = after bytes magic z.0 (to_be_bytes w64 a.0.0 ++ (sized b.0.0 ++ (sized c.0.0 ++ 0 ∷ []))) t0 from_generation in
    subst (λ (k : HeaderParts). IsHeader bytes k) (some_is (first_header a.0.0 b.0.0 c.0.0) h g.1) (record { allowed = (w.0, refl); generation = t1.1; map = t2.1; plan = t3.1; payload_is = whole })

first_again : (generation : ℕ) (map plan : List ℕ) → generation ≡ 1 → generation < 2 ^ 64 → length map < 2 ^ 32 → length plan < 2 ^ 32
    → header_of (magic ++ (to_be_bytes w64 generation ++ (sized map ++ (sized plan ++ 0 ∷ [])))) ≡ Some (first_header generation map plan)
unfolding header_of
first_again generation map plan one fits map_fits plan_fits =
    let test : eqb generation 1 ≡ true = eq-eqb generation 1 one in
    rw (
      magic_again (to_be_bytes w64 generation ++ (sized map ++ (sized plan ++ 0 ∷ []))),
      long_again generation (sized map ++ (sized plan ++ 0 ∷ [])) fits,
      text_again map (sized plan ++ 0 ∷ []) map_fits,
      text_again plan (0 ∷ []) plan_fits,
      test,
    )
    refl

pub header_again : (payload : List ℕ) (h : HeaderParts) → IsHeader payload h → header_of payload ≡ Some h
unfolding header_payload
header_again payload h is =
    let spelled : payload ≡ magic ++ (to_be_bytes w64 h.generation ++ (sized h.map ++ (sized h.plan ++ 0 ∷ []))) =
    is.payload_is ∙ ap (λ (s : Option (List ℕ)). magic ++ (to_be_bytes w64 h.generation ++ (sized h.map ++ (sized h.plan ++ tagged s)))) is.allowed.1 in
    let same : first_header h.generation h.map h.plan ≡ h = ap (λ (s : Option (List ℕ)). let k : HeaderParts = record { generation = h.generation; map = h.map; plan = h.plan; summary = s } in k) (sym is.allowed.1) in
    ap header_of spelled ∙ first_again h.generation h.map h.plan is.allowed.0 is.generation is.map is.plan ∙ ap (λ (k : HeaderParts). Some k) same

-- a payload is that of one header
pub header_one : (payload : List ℕ) (h other : HeaderParts) → IsHeader payload h → IsHeader payload other → h ≡ other
header_one payload h other one two = some_is h other (sym (header_again payload h one) ∙ header_again payload other two)
