use Rattle.std.proofs.Common.{◌<◌, ◌≤◌, inl, ℕ, List, [], length, Option, Some, None, Err, unwrap_or, refl, ap, rules}
use Rattle.std.specs.Prelude.{IsSomeAnd}
use Rattle.ssz_tool.specs.Plans.{file}
use Rattle.ssz_tool.proofs.Asking.{asks-file}
use Rattle.ssz_tool.proofs.files.load.Goals as goal

pub returns-in-Ok-Whole : goal.returns-in-Ok-Whole
unfolding file
returns-in-Ok-Whole g c =
    let few : length c.get.new.into.items ≤ c.args.max = search rules in
    record {
      comes = (
        c.get.new.into.items,
        few,
        λ held told.
            let read = rw (c.in-Ok-Whole.field-0-is, told) at c.in-Ok-Whole.ensures.read in
            ap (λ (o : Option (List ℕ)). unwrap_or o []) read,
        refl,
      );
      asks = λ held told. rw (asks-file held c.args.name.now c.args.max c.args.long)
          c.in-Ok-Whole.ensures.asked;
      usable = λ can. c.in-Ok-Whole.ensures.usable;
      leaves = record {
        content = c.in-Ok-Whole.ensures.content;
        readable = c.in-Ok-Whole.ensures.readable;
        get_faults = c.in-Ok-Whole.ensures.get_faults;
        put_faults = c.in-Ok-Whole.ensures.put_faults;
      };
    }

more_than : (n : ℕ) (held : Option (List ℕ)) → IsSomeAnd held (λ bytes. n < length bytes)
    → n < length (unwrap_or held [])
more_than n None more = absurd more
more_than n (Some bytes) more = more

pub returns-in-Ok-TooLong : goal.returns-in-Ok-TooLong
unfolding file
returns-in-Ok-TooLong g c = record {
  comes = inl (
    refl,
    λ held told.
        let read = rw (c.in-Ok-TooLong.field-0-is, told) at c.in-Ok-TooLong.ensures.read in
        more_than c.args.max _ read,
  );
  asks = λ held told. rw (asks-file held c.args.name.now c.args.max c.args.long)
      c.in-Ok-TooLong.ensures.asked;
  usable = λ can. tt;
  leaves = record {
    content = c.in-Ok-TooLong.ensures.content;
    readable = c.in-Ok-TooLong.ensures.readable;
    get_faults = c.in-Ok-TooLong.ensures.get_faults;
    put_faults = c.in-Ok-TooLong.ensures.put_faults;
  };
}

pub returns-in-Err-Failed : goal.returns-in-Err-Failed
unfolding file
returns-in-Err-Failed g c = record {
  comes = inl (λ can. c.in-Err-Failed.ensures.fails can (ap Err c.in-Err-Failed.field-0-is));
  asks = λ held told. rw (asks-file held c.args.name.now c.args.max c.args.long)
      c.in-Err-Failed.ensures.asked;
  usable = λ can. tt;
  leaves = record {
    content = c.in-Err-Failed.ensures.content;
    readable = c.in-Err-Failed.ensures.readable;
    get_faults = rw c.in-Err-Failed.field-0-is at c.in-Err-Failed.ensures.get_faults;
    put_faults = c.in-Err-Failed.ensures.put_faults;
  };
}

pub returns-in-Err-Memory : goal.returns-in-Err-Memory
unfolding file
returns-in-Err-Memory g c = record {
  comes = tt;
  asks = λ held told. rw (asks-file held c.args.name.now c.args.max c.args.long)
      c.in-Err-Memory.ensures.asked;
  usable = λ can. tt;
  leaves = record {
    content = c.in-Err-Memory.ensures.content;
    readable = c.in-Err-Memory.ensures.readable;
    get_faults = rw c.in-Err-Memory.field-0-is at c.in-Err-Memory.ensures.get_faults;
    put_faults = c.in-Err-Memory.ensures.put_faults;
  };
}
