-- Courses, part by part.
use Rattle.std.proofs.Common.{List}
use Rattle.fleet_base.specs.declared.geometry.PlannedVisit.{PlannedVisit}
use Rattle.fleet_base.specs.State.{FleetState}
use Rattle.station_api.specs.Clock.{Clock}
use Rattle.fleet_journal.specs.Standing.{Standing}
use Rattle.fleet_recovery.specs.Papers.{Papers}
use Rattle.fleet_serve.specs.declared.session.Settings.{Settings}
use Rattle.fleet_serve.specs.Spans.{span}
use Rattle.fleet_serve.specs.Serving.{Terms, Course, course, stand}

abbrev pub terms_on : List (List PlannedVisit) → Papers → Settings → Terms
terms_on routes papers settings = record { routes = routes; papers = papers; settings = settings }

abbrev pub course_on : List (List PlannedVisit) → Papers → Settings → FleetState → Standing → FleetState → Standing → Type 0 → Clock → Clock → Course
course_on routes papers settings x journal y later tells old new = course (terms_on routes papers settings) (stand x journal) (stand y later) (span tells old new)
