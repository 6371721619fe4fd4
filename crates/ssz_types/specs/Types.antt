-- The types of SimpleSerialize, as trees (simple-serialize.md, Typing).
use Rattle.std.specs.Prelude.{ℕ, List}
use Rattle.ssz_types.specs.declared.width.Width.{Width}

mutual
  -- a type, by its form; `byte` is another name of uint8
  pub data SszType : Type 0 where
    -- uintN: a number of N bits
    uint : Width → SszType
    boolean : SszType
    -- heterogeneous values, each with its name
    container : Fields → SszType
    -- Vector[T, N]: exactly N values of one type
    vector : SszType → ℕ → SszType
    -- List[T, N]: at most N values of one type
    list : SszType → ℕ → SszType
    -- Bitvector[N]: exactly N bits
    bitvector : ℕ → SszType
    -- Bitlist[N]: at most N bits
    bitlist : ℕ → SszType
    -- Union[T0, T1, ..]: a value of one of the types, with its selector
    union : Options → SszType

  -- the fields of a container in order, each with the bytes of its name
  pub data Fields : Type 0 where
    no_fields : Fields
    field : List ℕ → SszType → Fields → Fields

  -- the options of a union in order; `none_option` is None
  pub data Options : Type 0 where
    no_options : Options
    none_option : Options → Options
    option : SszType → Options → Options
