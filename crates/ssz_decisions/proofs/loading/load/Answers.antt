use Rattle.std.proofs.Common.{◌≡◌, ◌≤◌, ◌<◌, ◌∙◌, List, ℕ, Bool, true, false, Some, length, arith, sym, ap, subst}
use Rattle.std.specs.Prelude.{IfSome, IsSomeAnd, nat_lt}
use Rattle.ssz_outside.proofs.Asking.{asks-cut}
use Rattle.ssz_outside.specs.Content.{file_bytes}
use Rattle.ssz_schema.specs.Unfolding.{type_of}
use Rattle.ssz_script.specs.declared.reply.TheConstants.Reply.{TOO_LONG}
use Rattle.ssz_machine.specs.Rules.{◌>>◌, refuse}
use Rattle.ssz_machine.specs.Changes.{puts}
use Rattle.ssz_decisions.specs.Content.{EngineContent, rules_of}
use Rattle.ssz_decisions.specs.Loading.{brought_as, load_row}
use Rattle.ssz_decisions.proofs.Brought.{IsLong, anew-same, asks-nothing, asks-one, free-loads, free-row, load-is, loads-any, not-below, refused-anew, taken-blocks, taken-row, there-longer, there-whole, too-long, whole}
use Rattle.ssz_decisions.proofs.loading.load.Goals as goal

pub returns-in-Err-clause-answers : goal.returns-in-Err-clause-answers
returns-in-Err-clause-answers g c =
    loads-any g.H.PairHash.pair_of (g.F.Files.content c.args.files.now) c.args.file.now
    (λ bytes rules versions. load_row c.args.form rules versions c.args.v.now c.args.t.now bytes)
    (puts c.args.v.now) c.args.writer.0 c.args.store.now c.args.store.now _
    (λ bytes. refused-anew g.H.PairHash.pair_of
    (λ rules versions. load_row c.args.form rules versions c.args.v.now c.args.t.now bytes)
    (puts c.args.v.now) c.args.writer.0 c.args.store.now c.in-Err.code
    (λ versions stand. load-is c.args.form (rules_of g.H.PairHash.pair_of c.args.store.now)
    versions c.args.v.now c.args.t.now bytes
    ∙ taken-row g.H.PairHash.pair_of c.args.store.now c.args.writer.0
    c.args.v.now c.args.t.now versions stand c.in-Err.code
    (λ type. refuse TOO_LONG (nat_lt c.args.store.now.most (length bytes))
    >> brought_as c.args.form versions c.args.v.now type bytes) c.in-Err.ensures.err))

pub returns-in-Ok-TooLong-clause-answers : goal.returns-in-Ok-TooLong-clause-answers
returns-in-Ok-TooLong-clause-answers g c =
    let pair_of = g.H.PairHash.pair_of in
    let told = g.F.Files.content c.args.files.now in
    let store = c.args.store.now in
    let most : c.from.result ≡ store.most
    = c.from.ensures ∙ ap (λ (s : EngineContent). s.most) c.store.view_is in
    let read : IfSome told (λ held. IsSomeAnd (file_bytes held c.args.file.now)
    (λ b. store.most < length b))
    = subst (λ (m : ℕ). IfSome told (λ held. IsSomeAnd (file_bytes held c.args.file.now)
    (λ b. m < length b))) most
    (subst (λ (n : List ℕ). IfSome told (λ held. IsSomeAnd (file_bytes held n)
    (λ b. c.from.result < length b))) c.as_str.ensures.text
    (rw c.in-Ok-TooLong.field-0-is at c.in-Ok-TooLong.ensures.read)) in
    let long : IsLong told c.args.file.now store.most = too-long told c.args.file.now store.most
    read in
    record {
      bytes = long.bytes;
      read = long.read;
      answers = refused-anew pair_of
          (λ rules versions.
          load_row c.args.form rules versions c.args.v.now c.args.t.now long.bytes)
          (puts c.args.v.now) c.args.writer.0 store TOO_LONG
          (λ versions stand. load-is c.args.form (rules_of pair_of store) versions c.args.v.now
          c.args.t.now long.bytes
          ∙ free-row pair_of store c.args.writer.0 c.args.v.now c.args.t.now
          versions stand c.in-Ok.id
          (λ type. refuse TOO_LONG (nat_lt store.most (length long.bytes))
          >> brought_as c.args.form versions c.args.v.now type long.bytes) c.in-Ok.ensures.ok
          ∙ ap (λ (b : Bool). refuse TOO_LONG b >> brought_as c.args.form versions c.args.v.now
          (type_of store.types c.in-Ok.id) long.bytes) long.long);
    }

pub returns-in-Ok-Whole-clause-answers : goal.returns-in-Ok-Whole-clause-answers
returns-in-Ok-Whole-clause-answers g c =
    let pair_of = g.H.PairHash.pair_of in
    let told = g.F.Files.content c.args.files.now in
    let store = c.args.store.now in
    let new = c.bring_as.new.store in
    let bytes = c.as_slice.result.now in
    let v = c.args.v.now in
    let t = c.args.t.now in
    let w = c.args.writer.0 in
    let form = c.args.form in
    let type = type_of store.types c.in-Ok.id in
    let most : c.from.result ≡ store.most
    = c.from.ensures ∙ ap (λ (s : EngineContent). s.most) c.store.view_is in
    let read : IfSome told (λ held. file_bytes held c.args.file.now ≡ Some bytes)
    = subst (λ (b : List ℕ). IfSome told (λ held. file_bytes held c.args.file.now ≡ Some b))
    (sym c.as_slice.ensures.value)
    (subst (λ (n : List ℕ). IfSome told (λ held.
    file_bytes held n ≡ Some c.get.new.into.items)) c.as_str.ensures.text
    (rw c.in-Ok-Whole.field-0-is at c.in-Ok-Whole.ensures.read)) in
    let few : length bytes ≤ store.most
    = let bound = c.in-Ok-Whole.ensures.bound (ap Rattle.std.proofs.Common.Ok
    c.in-Ok-Whole.field-0-is) in
    let len = c.as_slice.ensures.len in omega arith in
    record {
      bytes = bytes;
      read = whole told c.args.file.now bytes read;
      answers = anew-same pair_of (λ rules versions. brought_as form versions v type bytes)
          (λ rules versions. load_row form rules versions v t bytes) (puts v) w store new
          c.in_ok-bring_as-in-Ok-Whole.field-0
          (λ versions stand. load-is form (rules_of pair_of store) versions v t bytes
          ∙ free-row pair_of store w v t versions stand c.in-Ok.id
          (λ type. refuse TOO_LONG (nat_lt store.most (length bytes))
          >> brought_as form versions v type bytes) c.in-Ok.ensures.ok
          ∙ ap (λ (b : Bool). refuse TOO_LONG b >> brought_as form versions v type bytes)
          (not-below store.most (length bytes) few))
          c.in_ok-bring_as-in-Ok-Whole.ensures.answers;
    }

pub returns-in-Err-clause-found : goal.returns-in-Err-clause-found
returns-in-Err-clause-found g c = λ held told versions stand can.
    absurd (taken-blocks g.H.PairHash.pair_of c.args.store.now c.args.writer.0 c.args.v.now
    c.args.t.now versions stand c.in-Err.code c.in-Err.ensures.err can)

pub returns-in-Ok-TooLong-clause-found : goal.returns-in-Ok-TooLong-clause-found
returns-in-Ok-TooLong-clause-found g c = λ held told versions stand can.
    there-longer (file_bytes held c.args.file.now) _
    (rw (c.in-Ok-TooLong.field-0-is, c.as_str.ensures.text, told) at c.in-Ok-TooLong.ensures.read)

pub returns-in-Ok-Whole-clause-found : goal.returns-in-Ok-Whole-clause-found
returns-in-Ok-Whole-clause-found g c = λ held told versions stand can.
    there-whole (file_bytes held c.args.file.now) _
    (rw (c.in-Ok-Whole.field-0-is, c.as_str.ensures.text, told) at c.in-Ok-Whole.ensures.read)

pub returns-in-Err-clause-asks : goal.returns-in-Err-clause-asks
returns-in-Err-clause-asks g c = λ versions stand.
    asks-nothing _ _ _ (taken-blocks g.H.PairHash.pair_of c.args.store.now c.args.writer.0
    c.args.v.now c.args.t.now versions stand c.in-Err.code c.in-Err.ensures.err)

pub returns-in-Ok-TooLong-clause-asks : goal.returns-in-Ok-TooLong-clause-asks
returns-in-Ok-TooLong-clause-asks g c = λ versions stand.
    asks-one false _ c.args.file.now _ c.args.store.now.most _ _ _
    (free-loads g.H.PairHash.pair_of c.args.store.now c.args.writer.0 c.args.v.now c.args.t.now
    versions stand c.in-Ok.id c.in-Ok.ensures.ok) c.as_str.ensures.text
    (c.from.ensures ∙ ap (λ (s : EngineContent). s.most) c.store.view_is)
    c.in-Ok-TooLong.ensures.asked

pub returns-in-Ok-Whole-clause-asks : goal.returns-in-Ok-Whole-clause-asks
returns-in-Ok-Whole-clause-asks g c = λ versions stand.
    asks-one false _ c.args.file.now _ c.args.store.now.most _ _ _
    (free-loads g.H.PairHash.pair_of c.args.store.now c.args.writer.0 c.args.v.now c.args.t.now
    versions stand c.in-Ok.id c.in-Ok.ensures.ok) c.as_str.ensures.text
    (c.from.ensures ∙ ap (λ (s : EngineContent). s.most) c.store.view_is)
    c.in-Ok-Whole.ensures.asked

pub returns-in-Err-Failed-clause-asks : goal.returns-in-Err-Failed-clause-asks
returns-in-Err-Failed-clause-asks g c = λ versions stand.
    asks-one true _ c.args.file.now _ c.args.store.now.most _ _ _
    (free-loads g.H.PairHash.pair_of c.args.store.now c.args.writer.0 c.args.v.now c.args.t.now
    versions stand c.in-Ok.id c.in-Ok.ensures.ok) c.as_str.ensures.text
    (c.from.ensures ∙ ap (λ (s : EngineContent). s.most) c.store.view_is)
    c.in-Err-Failed.ensures.asked

pub returns-in_err-bring_as-in-Ok-Whole-clause-asks :
    goal.returns-in_err-bring_as-in-Ok-Whole-clause-asks
returns-in_err-bring_as-in-Ok-Whole-clause-asks g c = λ versions stand.
    asks-one _ _ c.args.file.now _ c.args.store.now.most _ _ _
    (free-loads g.H.PairHash.pair_of c.args.store.now c.args.writer.0 c.args.v.now c.args.t.now
    versions stand c.in-Ok.id c.in-Ok.ensures.ok) c.as_str.ensures.text
    (c.from.ensures ∙ ap (λ (s : EngineContent). s.most) c.store.view_is)
    (asks-cut _ _ _ _ c.in-Ok-Whole.ensures.asked)
