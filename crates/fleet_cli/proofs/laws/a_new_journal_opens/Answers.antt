use Rattle.std.proofs.Common.{◌∙◌, List, [], ◌∷◌, ◌++◌, refl, sym, ap, inl, append-nil}
use Rattle.fleet_base.specs.declared.geometry.PlannedVisit.{PlannedVisit}
use Rattle.fleet_base.specs.State.{FleetState}
use Rattle.fleet_base.specs.World.{Marked}
use Rattle.fleet_base.specs.Bytes.{text_of_lines}
use Rattle.fleet_serve.specs.declared.session.Settings.{Settings}
use Rattle.fleet_serve.specs.Lines.{greeting_of}
use Rattle.fleet_cli.specs.Lives.{SessionMade, kept}
use Rattle.fleet_cli.proofs.LivesJoining.{first_of}
use Rattle.fleet_cli.proofs.laws.a_new_journal_opens.Goals as goal

opened : List (List PlannedVisit) → Settings → FleetState → SessionMade
opened routes settings x = record {
  settings = settings;
  held = [];
  start = record { state = x; place = 0 };
  turns = [];
  first = x;
  events = Marked (record { state = x; sent = text_of_lines (greeting_of routes x) }) ∷ [];
}

pub returns : goal.returns
unfolding opened
returns c = λ routes settings window x may first.
    let lines = greeting_of routes x in (
      opened routes settings x,
      refl,
      (
        record {
          begins = (first_of routes window x may first, refl);
          turns = tt;
          opens = ([], kept 0 [] (inl refl) (inl refl) refl (text_of_lines (lines ++ []), refl) refl);
          marks = (([], kept 0 [] (inl refl) (inl refl) refl ([], append-nil (text_of_lines lines) ∙ ap text_of_lines (sym (append-nil lines))) refl), (text_of_lines lines, refl), tt);
        },
        tt,
      ),
      refl,
    )
