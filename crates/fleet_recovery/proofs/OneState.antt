-- From one state entries lead to one state.
use Rattle.std.proofs.Common.{ℕ, ◌≡◌, ◌-◌, ◌<◌, ◌≤◌, List, [], ◌∷◌, ◌++◌, replicate, sym, ap, ◌∙◌, subst, arith, length, length-append}
use Rattle.std.proofs.lemmas.List.{ext_get_or}
use Rattle.fleet_base.specs.declared.geometry.Visit.{Visit}
use Rattle.fleet_base.specs.declared.order.PairId.{PairId}
use Rattle.fleet_base.specs.declared.report.Report.{Report}
use Rattle.fleet_base.specs.Lists.{row_of}
use Rattle.fleet_base.specs.Order.{Graph, turned}
use Rattle.fleet_base.specs.State.{FleetState, order_at, released, released_count, start_ahead}
use Rattle.fleet_base.specs.Release.{Releases, IsLastReleasable, IsFirstState, IsFirstStateAhead}
use Rattle.fleet_base.specs.Rules.{IsFleetState}
use Rattle.fleet_base.proofs.GraphLaws.{length-map, get_or-map}
use Rattle.fleet_core.specs.Step.{Step, heard_of, tick_of}
use Rattle.fleet_core.proofs.Applied.{step_window}
use Rattle.fleet_core.proofs.Delaying.{step_keeps_rules}
use Rattle.fleet_core.proofs.Counts.{heard_releases}
use Rattle.journal_frame.specs.Entries.{Accepted}
use Rattle.journal_frame.proofs.EntryLaws.{entry_one}
use Rattle.fleet_recovery.specs.Entries.{Enters, Leads}

last_one : (g : Graph) (x : FleetState) (i j k : ℕ) → IsLastReleasable g (order_at g x) x i j → IsLastReleasable g (order_at g x) x i k → j ≡ k
last_one g x i j k one two = omega (arith, one.greatest k two.within two.clear, two.greatest j one.within one.clear)

releases_one : (g : Graph) (tick : ℕ) (x y z : FleetState) → length x.releases ≡ length g.lasts → ((i : ℕ) → i < length g.lasts → 1 ≤ released_count x i) → Releases g tick x y → Releases g tick x z → y ≡ z
releases_one g tick x y z robots some one two =
    one.others ∙ ap (λ (rows : List (List ℕ)). record x { releases = rows }) (ext_get_or [] y.releases z.releases (one.robots ∙ sym two.robots) (λ i h. row i (omega (arith, h, one.robots, robots)))) ∙ sym two.others
  where
    counted : (w : FleetState) (i : ℕ) → row_of w.releases i ≡ row_of x.releases i ++ replicate (released_count w i - released_count x i) tick → released_count x i ≤ released_count w i
    counted w i e = omega (arith, ap length e, length-append (row_of x.releases i) (replicate (released_count w i - released_count x i) tick))

    row : (i : ℕ) → i < length g.lasts → row_of y.releases i ≡ row_of z.releases i
    row i h =
        let at_y = one.ticks i h in
        let at_z = two.ticks i h in
        let last : released y i ≡ released z i = last_one g x i (released y i) (released z i) (one.each i h) (two.each i h) in
        let same : released_count y i ≡ released_count z i = omega (arith, last, counted y i at_y, counted z i at_z, some i h) in
        at_y ∙ ap (λ (n : ℕ). row_of x.releases i ++ replicate (n - released_count x i) tick) same ∙ sym at_z

-- there is one first state for each window
pub first_ahead_one : (g : Graph) (window : ℕ) (x y : FleetState) → IsFirstStateAhead g window x → IsFirstStateAhead g window y → x ≡ y
first_ahead_one g window x y one two = releases_one g 0 (start_ahead g window) x y (length-map zeros g.lasts) (λ i h. omega (arith, ap length (get_or-map zeros g.lasts i 0 [] h))) one two
  where
    zeros : ℕ → List ℕ
    zeros n = 0 ∷ []

pub first_one : (g : Graph) (x y : FleetState) → IsFirstState g x → IsFirstState g y → x ≡ y
first_one g x y one two = first_ahead_one g 1 x y one two

step_one : (g : Graph) (x : FleetState) (report : Report) (switched : List PairId) (rs ss : List Visit) (y z : FleetState) → IsFleetState g x → Step g x report switched rs y → Step g x report switched ss z → y ≡ z
step_one g x report switched rs ss y z s one two =
    let x1 : FleetState = record (heard_of x report) { sides = turned x.sides switched } in
    let same : x1.releases ≡ x.releases = heard_releases x report in
    releases_one g (tick_of report) x1 y z (ap length same ∙ s.fleet.releases) (λ i h. omega (arith, ap (λ (rows : List (List ℕ)). length (row_of rows i)) same, s.releases.started i h, s.releases.within i h)) one.state two.state

pub enters_window : (g : Graph) (x : FleetState) (payload : List ℕ) (y : FleetState) → Enters g x payload y → y.window ≡ x.window
enters_window g x payload y e = step_window g x e.entry.report e.entry.switched e.releases y e.step

pub leads_window : (g : Graph) (x : FleetState) (payloads : List (List ℕ)) (y : FleetState) → Leads g x payloads y → y.window ≡ x.window
leads_window g x [] y same = ap (λ (z : FleetState). z.window) same
leads_window g x (payload ∷ payloads) y (u, enters, rest) = leads_window g u payloads y rest ∙ enters_window g x payload u enters

-- a first state has its window
pub first_window : (g : Graph) (window : ℕ) (x : FleetState) → IsFirstStateAhead g window x → x.window ≡ window
first_window g window x first = ap (λ (z : FleetState). z.window) first.others

-- an entry leads to one state
pub enters_one : (g : Graph) (x : FleetState) (payload : List ℕ) (y z : FleetState) → IsFleetState g x → Enters g x payload y → Enters g x payload z → y ≡ z
enters_one g x payload y z s one two =
    let same = entry_one payload one.entry two.entry one.is_entry two.is_entry in
    step_one g x two.entry.report two.entry.switched one.releases two.releases y z s (subst (λ (e : Accepted). Step g x e.report e.switched one.releases y) same one.step) two.step

pub enters_rules : (g : Graph) (x : FleetState) (payload : List ℕ) (y : FleetState) → IsFleetState g x → Enters g x payload y → IsFleetState g y
enters_rules g x payload y s enters = step_keeps_rules g x enters.entry.report enters.entry.switched enters.releases y s enters.step

pub leads_one : (g : Graph) (x : FleetState) (payloads : List (List ℕ)) (y z : FleetState) → IsFleetState g x → Leads g x payloads y → Leads g x payloads z → y ≡ z
leads_one g x [] y z s one two = one ∙ sym two
leads_one g x (payload ∷ payloads) y z s (u, enters, rest) (v, enters2, rest2) =
    let same = enters_one g x payload u v s enters enters2 in
    leads_one g v payloads y z (enters_rules g x payload v s enters2) (subst (λ (w : FleetState). Leads g w payloads y) same rest) rest2
