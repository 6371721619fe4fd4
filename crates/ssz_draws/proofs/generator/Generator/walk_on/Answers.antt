use Rattle.std.proofs.Common.{◌≡◌, ◌∙◌, List, Option, sym, ap, subst}
use Rattle.std.specs.Prelude.{IfSome}
use Rattle.ssz_schema.specs.declared.path.PathStep.{PathStep}
use Rattle.ssz_schema.specs.Types.{SszType}
use Rattle.ssz_schema.specs.Unfolding.{type_of}
use Rattle.ssz_arena.specs.Content.{tree_of}
use Rattle.ssz_script.specs.declared.statement.Statement.{Statement}
use Rattle.ssz_machine.specs.Drawing.{Walk}
use Rattle.ssz_draws.specs.declared.turn.Turn.{Turn}
use Rattle.ssz_draws.specs.declared.turn.Turn.TheVariants.{On}
use Rattle.ssz_draws.specs.Turns.{IsDrawnTurn, IsSeen, edit_at}
use Rattle.ssz_draws.specs.Walked.{IsWalked, IsEditStatement}
use Rattle.ssz_draws.proofs.Turning.{ok_so}
use Rattle.ssz_draws.proofs.Ways.{IsOn, edits_are, walk_ends, walk_goes_on, walk_leads}
use Rattle.ssz_draws.proofs.generator.Generator.walk_on.Goals as goal

pub returns-in_default-step_place-clause-walked : goal.returns-in_default-step_place-clause-walked
returns-in_default-step_place-clause-walked g c = λ v of.
    let types = c.args.schema.now in
    let arena = c.args.arena.now in
    let part = c.loop-path.part in
    let t : SszType = type_of types part in
    let turned : IsDrawnTurn types part t
    (IsSeen t (tree_of arena c.loop-path.here)) c.loop-path.self
    c.turn.new.self (On c.in-On.next c.in-On.step) =
    subst (IsDrawnTurn types part t (IsSeen t (tree_of arena c.loop-path.here)) c.loop-path.self
    c.turn.new.self) c.in-On.is c.in_ok-turn.ensures in
    absurd (walk_leads types.format types arena c.args.id c.args.node c.args.self.now part
    c.loop-path.here c.loop-path.path.items c.loop-path.self c.turn.new.self
    c.ty-legal.ensures.legal c.loop-path.invariant.on c.in-On.next c.in-On.step turned
    c.in_default-step_place.ensures.none v of)

pub loop-path-preserved : goal.loop-path-preserved
loop-path-preserved g c =
    let types = c.args.schema.now in
    let arena = c.args.arena.now in
    let part = c.loop-path.part in
    let t : SszType = type_of types part in
    let turned : IsDrawnTurn types part t
    (IsSeen t (tree_of arena c.loop-path.here)) c.loop-path.self
    c.turn.new.self (On c.in-On.next c.in-On.step) =
    subst (IsDrawnTurn types part t (IsSeen t (tree_of arena c.loop-path.here)) c.loop-path.self
    c.turn.new.self) c.in-On.is c.in_ok-turn.ensures in
    record {
      on = subst (λ (path : List PathStep). IsOn types arena c.args.id c.args.node
          c.args.self.now c.in-On.next c.in-Some.place.node path c.turn.new.self)
          (sym c.in_ok-push-in-On.ensures.items)
          (walk_goes_on types.format types arena c.args.id c.args.node c.args.self.now part
          c.loop-path.here c.loop-path.path.items c.loop-path.self c.turn.new.self
          c.ty-legal.ensures.legal c.loop-path.invariant.on c.in-On.next c.in-On.step
          c.in-Some.place turned c.in-Some.ensures.led);
    }

pub returns-in_default : goal.returns-in_default
returns-in_default g c =
    let types = c.args.schema.now in
    let arena = c.args.arena.now in
    let part = c.loop-path.part in
    let path = c.loop-path.path.items in
    let turn : Turn = c.in_ok-turn.turn in
    let whole : SszType = type_of types c.args.id in
    record {
      walked = ok_so c.edit_at.result (λ (edit : Option Statement). edit ≡ edit_at turn path)
          (IsWalked whole (tree_of arena c.args.node) c.args.self.now c.turn.new.self)
          c.edit_at.ensures
          (λ edit same v of. walk_ends types.format types arena c.args.id c.args.node
          c.args.self.now part c.loop-path.here path c.loop-path.self c.turn.new.self
          c.ty-legal.ensures.legal c.loop-path.invariant.on turn
          (λ to step is. c.in_default.not-On to step is) c.in_ok-turn.ensures v of
          ∙ ap (λ (e : Option Statement).
          let walk : Walk = record { edit = e; seed = c.turn.new.self } in walk) (sym same));
      edits = ok_so c.edit_at.result (λ (edit : Option Statement). edit ≡ edit_at turn path)
          (λ (edit : Option Statement). IfSome edit IsEditStatement) c.edit_at.ensures
          (λ edit same. subst (λ (e : Option Statement). IfSome e IsEditStatement) (sym same)
          (edits_are turn path));
    }
