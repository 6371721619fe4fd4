-- What `clap` finds in the words, by what it answers.
use Rattle.std.proofs.Common.{◌≡◌, ◌≢◌, List, [], ◌∷◌, false, Option, Some, None, Err, option_map}
use Rattle.std.proofs.Common.{refl, arith}
use Rattle.clap.specs.Walk.{is_empty}
use Rattle.clap.specs.Words.{Kinds, Row, Text, fault_of, subcommand_name_of, subcommand_of}
use Rattle.clap.specs.Words.{subcommand_rows_of}
use Rattle.clap.specs.declared.parser.matches.ArgMatches.{ArgMatches}
use Rattle.ssz_words.specs.CommandSet.{program}
use Rattle.ssz_words.specs.Reading.{ReadsWords}
use Rattle.ssz_words.specs.declared.faults.WordsFault.{WordsFault}
use Rattle.ssz_words.specs.declared.faults.WordsFault.TheVariants.{NotTaken, Memory}
use Rattle.ssz_words.specs.Words.{command_of, found_in, named_args}

-- with no fault, the command that it enters
pub found_without_fault : (words : List Text) → fault_of program words ≡ []
    → found_in words ≡ subcommand_of program words
unfolding found_in
found_without_fault words none = rw none refl

not_empty : (kinds : Kinds) → kinds ≢ [] → is_empty kinds ≡ false
not_empty [] some = absurd (some refl)
not_empty (kind ∷ kinds) some = grind arith

-- with a fault, nothing
pub found_with_fault : (words : List Text) → fault_of program words ≢ [] → found_in words ≡ None
unfolding found_in
found_with_fault words some = rw (not_empty _ some) refl

-- the words ask for what the command that was entered asks for
pub command_found : (words : List Text) (entered : Option (Text × List Row)) (name : Text)
    (rows : List Row) → found_in words ≡ entered
    → Some name ≡ option_map (λ p. p.0) entered → Some rows ≡ option_map (λ p. p.1) entered
    → command_of words ≡ named_args name rows
unfolding command_of
command_found words None name rows is left right = cc
command_found words (Some p) name rows is left right =
    let name_is : p.0 ≡ name = cc in
    let rows_are : p.1 ≡ rows = cc in
    rw is (rw (name_is, rows_are) refl)

-- and for nothing where none was entered
pub command_missing : (words : List Text) (entered : Option (Text × List Row))
    → found_in words ≡ entered → None ≡ option_map (λ p. p.0) entered
    → command_of words ≡ None
unfolding command_of
command_missing words None is none = rw is refl
command_missing words (Some p) is none = cc

name_of_rows : {X : Type 0} (h : X → Text × List Row) (o : Option X)
    → option_map (λ b. (h b).0) o ≡ option_map (λ p. p.0) (option_map h o)
name_of_rows h None = refl
name_of_rows h (Some b) = refl

-- the name of the command that was entered stands beside its rows
pub subcommand_name-rows : (m : ArgMatches)
    → subcommand_name_of m ≡ option_map (λ p. p.0) (subcommand_rows_of m)
subcommand_name-rows m = name_of_rows _ _

-- an error is read right where NotTaken comes only where there is nothing to read
pub refused_reads : {A : Type 0} (fault : WordsFault) (read : Option A)
    → (fault ≡ NotTaken → read ≡ None) → ReadsWords (Err fault) read
refused_reads NotTaken read none = none refl
refused_reads Memory read none = tt
