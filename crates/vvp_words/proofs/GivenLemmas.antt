-- From what a parse promises to what the words say.
use Rattle.std.proofs.Common.{◌≡◌, ◌∙◌, inl, inr, Bool, true, List, [], ◌∷◌, refl, sym, ap, codes, Option, Some, None}
use Rattle.std.specs.Prelude.{Err, IsErrOf}
use Rattle.clap.specs.Words.{App, Row, Text, Kinds, IsAmong, HasKind, fault_of, first_of, first_value, is_simple, is_simple_and_free, kind_of, matches_of, rows_of}
use Rattle.clap.specs.declared.error.Error.{Error}
use Rattle.clap.specs.declared.error.kind.ErrorKind.{ErrorKind}
use Rattle.clap.specs.declared.error.kind.ErrorKind.TheVariants as kind
use Rattle.clap.specs.declared.parser.matches.Found.{Found}
use Rattle.clap.proofs.WalkLemmas.{first_value-rows}
use Rattle.clap.proofs.OnLiterals.{clap_on_literals}
use Rattle.vvp_words.specs.Command.{Given, given, given_by, given_from, given_unless, simple_command}

pub simple_command_is_simple : is_simple simple_command ≡ true
unfolding simple_command clap_on_literals
simple_command_is_simple = refl

pub simple_command_is_free : is_simple_and_free simple_command ≡ true
unfolding simple_command clap_on_literals
simple_command_is_free = refl

abbrev pub given_as : Text → Option Text → Option Text → Option Text → Bool → Option Given
given_as operand events mode order stats = Some (record { operand = operand; events = events; mode = mode; order = order; stats = stats })

none_at_fault : (kinds : Kinds) (rows : List Row) (k : ErrorKind) → IsAmong k kinds → given_unless kinds rows ≡ None
none_at_fault [] rows k among = absurd among
none_at_fault (x ∷ kinds) rows k among = refl

at_fault : (kinds : Kinds) (rows : List Row) (e : Error) → (kind_of e ≡ kind.OutOfMemory → ⊥) → HasKind kinds e → given_unless kinds rows ≡ None
at_fault kinds rows e other (inl memory) = absurd (other memory)
at_fault kinds rows e other (inr among) = none_at_fault kinds rows (kind_of e) among

-- words at which the parse fails by its own rules say nothing
pub refused_by : (app : App) (words : List Text) (e : Error) → app ≡ simple_command → (kind_of e ≡ kind.OutOfMemory → ⊥)
    → (is_simple_and_free app ≡ true → HasKind (fault_of app words) e) → given words ≡ None
unfolding given
refused_by app words e is other fails =
    ap (λ (a : App). given_unless (fault_of a words) (matches_of simple_command words)) (sym is)
    ∙ at_fault (fault_of app words) (matches_of simple_command words) e other (fails (ap is_simple_and_free is ∙ simple_command_is_free))

-- the rows of a parse that succeeds are those of the words
pub given_at : (app : App) (words : List Text) (rows : List Row) → app ≡ simple_command
    → (is_simple_and_free app ≡ true → fault_of app words ≡ []) → (is_simple app ≡ true → rows ≡ matches_of app words) → given words ≡ given_by rows
unfolding given
given_at app words rows is whole matches =
    ap (λ (a : App). given_unless (fault_of a words) (matches_of simple_command words)) (sym is)
    ∙ ap (λ (kinds : Kinds). given_unless kinds (matches_of simple_command words)) (whole (ap is_simple_and_free is ∙ simple_command_is_free))
    ∙ ap (λ (a : App). given_by (matches_of a words)) (sym is)
    ∙ ap given_by (sym (matches (ap is_simple is ∙ simple_command_is_simple)))

-- what the first values say is what the rows say
pub given_is : (f : Found) (operand events mode order stats : Option Text) → operand ≡ first_value f (codes "file") → events ≡ first_value f (codes "events")
    → mode ≡ first_value f (codes "mode") → order ≡ first_value f (codes "order") → stats ≡ first_value f (codes "stats")
    → given_from operand events mode order stats ≡ given_by (rows_of f)
given_is f operand events mode order stats operand_is events_is mode_is order_is stats_is =
    let rows : List Row = rows_of f in
    ap (λ (x : Option Text). given_from x events mode order stats) (operand_is ∙ first_value-rows f (codes "file"))
    ∙ ap (λ (x : Option Text). given_from (first_of (codes "file") rows) x mode order stats) (events_is ∙ first_value-rows f (codes "events"))
    ∙ ap (λ (x : Option Text). given_from (first_of (codes "file") rows) (first_of (codes "events") rows) x order stats) (mode_is ∙ first_value-rows f (codes "mode"))
    ∙ ap (λ (x : Option Text). given_from (first_of (codes "file") rows) (first_of (codes "events") rows) (first_of (codes "mode") rows) x stats) (order_is ∙ first_value-rows f (codes "order"))
    ∙ ap (λ (x : Option Text). given_from (first_of (codes "file") rows) (first_of (codes "events") rows) (first_of (codes "mode") rows) (first_of (codes "order") rows) x) (stats_is ∙ first_value-rows f (codes "stats"))

pub err_is : {T E : Type 0} {x y : E} → IsErrOf {T = T} {E = E} (Err x) y → x ≡ y
err_is same = cc

-- the same error where a call answers another type
pub same_err : {T U E : Type 0} {x y : E} → IsErrOf {T = T} {E = E} (Err x) y → IsErrOf {T = U} {E = E} (Err x) y
same_err {T} {U} {E} {x} {y} same = let is : x ≡ y = err_is same in cc

pub same_stats : (operand : Text) (events mode order : Option Text) (b c : Bool) → b ≡ c
    → given_as operand events mode order b ≡ given_as operand events mode order c
same_stats operand events mode order b c same = ap (given_as operand events mode order) same
