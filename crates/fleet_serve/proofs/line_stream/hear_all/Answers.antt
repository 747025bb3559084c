use Rattle.std.proofs.Common.{◌≡◌, ◌++◌, ◌+◌, ◌<◌, ◌∷◌, [], ℕ, List, Result, Err, length, take, drop, get_or, refl, sym, ap, ◌∙◌, subst, append_assoc, append-nil}
use Rattle.std.proofs.lemmas.Result.{err_from_is_err_and}
use Rattle.std.proofs.lemmas.List.{take_more, take-append-drop}
use Rattle.station_api.specs.Clock.{Clock}
use Rattle.fleet_base.specs.Bytes.{whole_lines}
use Rattle.fleet_serve.proofs.StepMoments.{resting}
use Rattle.fleet_recovery.specs.Opening.{IsAtRest}
use Rattle.fleet_serve.specs.declared.outcome.StepFault.{StepFault}
use Rattle.fleet_recovery.specs.Papers.{papers_in}
use Rattle.fleet_serve.specs.Serving.{Serves, point_of}
use Rattle.fleet_serve.proofs.Courses.{course_on}
use Rattle.fleet_serve.specs.Reading.{kept_of, unfinished, Hears}
use Rattle.fleet_recovery.proofs.Passing.{counted_on}
use Rattle.fleet_serve.proofs.Moments.{counted_self}
use Rattle.fleet_serve.proofs.Pieces.{unfinished_is, unfinished_join, no_line, all_begun}
use Rattle.fleet_serve.proofs.GoingOn.{serves_none, serves_on, fault_on}
use Rattle.fleet_serve.proofs.line_stream.hear_all.Goals as goal

-- a line that was begun, the bytes read so far, and one more
more_bytes : (line bytes : List ℕ) (n d : ℕ) → n < length bytes → (line ++ take n bytes) ++ get_or bytes n d ∷ [] ≡ line ++ take (n + 1) bytes
more_bytes line bytes n d h = append_assoc line (take n bytes) (get_or bytes n d ∷ []) ∙ ap (λ (l : List ℕ). line ++ l) (sym (take_more bytes n d h))

pub returns-in_err-hear_byte-clause-heard : goal.returns-in_err-hear_byte-clause-heard
returns-in_err-hear_byte-clause-heard g c line begun e =
    let n = c.loop-byte.byte-index in
    let bytes = c.args.bytes.now in
    let routes = c.args.session.now.plan.now in
    let papers = papers_in c.args.session.now.papers.now in
    let settings = c.args.session.now.settings.now in
    let t = line ++ take n bytes in
    let byte = get_or bytes n 0 in
    let old : Clock = g.T.Station.clock c.args.station.now in
    let mid : Clock = g.T.Station.clock c.loop-byte.station in
    let new : Clock = g.T.Station.clock c.hear_byte.new.station in
    let fault = c.in_err-hear_byte.field-0.0 in
    let p = err_from_is_err_and c.from_residual.result c.from_residual.ensures.1 in
    let first = c.loop-byte.invariant.heard line begun e in
    let whole : (t ++ byte ∷ []) ++ drop (n + 1) bytes ≡ line ++ bytes =
    ap (λ (l : List ℕ). l ++ drop (n + 1) bytes) (more_bytes line bytes n 0 c.loop-byte-test.true) ∙ append_assoc line (take (n + 1) bytes) (drop (n + 1) bytes) ∙ ap (λ (l : List ℕ). line ++ l) (take-append-drop (n + 1) bytes) in
    subst (λ (r : Result (Unit {0}) StepFault). Hears (course_on routes papers settings c.args.fleet.now c.args.journal.now c.hear_byte.new.fleet c.hear_byte.new.journal g.T.Station.tells old new) line bytes c.hear_byte.new.kept r) (sym (p.1 ∙ ap Err p.2))
    (fault_on routes papers settings (point_of c.args.fleet.now c.args.journal.now) (point_of c.loop-byte.fleet c.loop-byte.journal) (point_of c.hear_byte.new.fleet c.hear_byte.new.journal) g.T.Station.tells
    (IsAtRest routes papers c.args.journal.now c.args.fleet.now old) (IsAtRest routes papers c.loop-byte.journal c.loop-byte.fleet mid) c.loop-byte.invariant.rests old mid new t (byte ∷ []) (drop (n + 1) bytes) (line ++ bytes) c.hear_byte.new.kept first.0 whole line bytes fault refl
    (c.in_err-hear_byte.ensures.heard (unfinished t) (unfinished_is t) first.1))

pub loop-byte-preserved : goal.loop-byte-preserved
loop-byte-preserved g c = record {
  heard = λ line begun e.
      let n = c.loop-byte.byte-index in
      let bytes = c.args.bytes.now in
      let routes = c.args.session.now.plan.now in
      let papers = papers_in c.args.session.now.papers.now in
      let settings = c.args.session.now.settings.now in
      let t = line ++ take n bytes in
      let byte = get_or bytes n 0 in
      let old : Clock = g.T.Station.clock c.args.station.now in
      let mid : Clock = g.T.Station.clock c.loop-byte.station in
      let new : Clock = g.T.Station.clock c.hear_byte.new.station in
      let first = c.loop-byte.invariant.heard line begun e in
      let second = c.in_ok-hear_byte.ensures.heard (unfinished t) (unfinished_is t) first.1 in
      let more = more_bytes line bytes n 0 c.loop-byte-test.true in (
        subst (Serves (course_on routes papers settings c.args.fleet.now c.args.journal.now c.hear_byte.new.fleet c.hear_byte.new.journal g.T.Station.tells old new)) more
            (serves_on routes papers settings (point_of c.args.fleet.now c.args.journal.now) (point_of c.loop-byte.fleet c.loop-byte.journal) (point_of c.hear_byte.new.fleet c.hear_byte.new.journal) g.T.Station.tells
            (IsAtRest routes papers c.args.journal.now c.args.fleet.now old) (IsAtRest routes papers c.loop-byte.journal c.loop-byte.fleet mid) c.loop-byte.invariant.rests old mid new t (byte ∷ []) first.0 second.0),
        second.1 ∙ ap kept_of (sym (unfinished_join t (byte ∷ []))) ∙ ap (λ (s : List ℕ). kept_of (unfinished s)) more,
      );
  short = c.hear_byte.ensures.short;
  rules = c.hear_byte.ensures.rules;
  room = c.hear_byte.ensures.room;
  stands = λ told. c.in_ok-hear_byte.ensures.stands told (λ is. cc);
  rests = λ told rest. c.in_ok-hear_byte.ensures.rests told (λ is. cc) (c.loop-byte.invariant.rests told rest);
  counted = counted_on _ _ _ c.loop-byte.invariant.counted c.hear_byte.ensures.counted;
}

pub loop-byte-init : goal.loop-byte-init
loop-byte-init g c = record {
  heard = λ line begun e.
      let clock : Clock = g.T.Station.clock c.args.station.now in
      let papers = papers_in c.args.session.now.papers.now in
      let settings = c.args.session.now.settings.now in
      let whole = append-nil line in (
        serves_none (course_on c.args.session.now.plan.now papers settings c.args.fleet.now c.args.journal.now c.args.fleet.now c.args.journal.now g.T.Station.tells clock clock) (line ++ [])
            (ap whole_lines whole ∙ no_line line begun) refl (resting c.args.session.now.plan.now papers settings c.args.fleet.now c.args.journal.now g.T.Station.tells clock []) (λ told. refl),
        e ∙ ap kept_of (sym (ap unfinished whole ∙ all_begun line begun)),
      );
  short = c.requires.short;
  rules = c.requires.state;
  room = c.requires.room;
  stands = c.requires.stands;
  rests = λ told rest. rest;
  counted = counted_self _;
}
