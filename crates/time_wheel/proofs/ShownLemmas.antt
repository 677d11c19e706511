-- Writes to the queues as they are shown.
use Rattle.std.proofs.Common.{◌≡◌, ◌≢◌, ℕ, ◌<◌, List, [], ◌++◌, length, get_or, set, map, sym, ap, ◌∙◌, arith}
use Rattle.std.proofs.lemmas.List.{get_or-set_same, get_or-set_other, length-set, set-set, set_comm, length-map, length-append}
use Rattle.event_pool.specs.declared.agenda.Due.{Due}
use Rattle.time_wheel.specs.TimeWheel.{joined, activated, shown}
use Rattle.time_wheel.specs.Queues.{moved_to_active}
use Rattle.time_wheel.specs.declared.queues.TheConstants.{ACTIVE}
use Rattle.time_wheel.proofs.JoinedLemmas.{length-joined_set}
use Rattle.time_wheel.proofs.SettleLemmas.{activated_queues}

pub length-shown : (queues : List (List Due)) → length (shown queues) ≡ length queues
length-shown queues = length-set queues ACTIVE (map activated (get_or queues ACTIVE []))

pub shown_active : (queues : List (List Due)) → ACTIVE < length queues → get_or (shown queues) ACTIVE [] ≡ map activated (get_or queues ACTIVE [])
shown_active queues long = get_or-set_same queues ACTIVE (map activated (get_or queues ACTIVE [])) [] long

pub shown_other : (queues : List (List Due)) (q : ℕ) → q ≢ ACTIVE → get_or (shown queues) q [] ≡ get_or queues q []
shown_other queues q other = get_or-set_other queues ACTIVE q (map activated (get_or queues ACTIVE [])) [] other

-- a write to the active queue
pub shown-set_active : (queues : List (List Due)) (dues : List Due) → ACTIVE < length queues → shown (set queues ACTIVE dues) ≡ set (shown queues) ACTIVE (map activated dues)
shown-set_active queues dues long =
    ap (λ xs. set (set queues ACTIVE dues) ACTIVE (map activated xs)) (get_or-set_same queues ACTIVE dues [] long)
    ∙ set-set queues ACTIVE dues (map activated dues)
    ∙ sym (set-set queues ACTIVE (map activated (get_or queues ACTIVE [])) (map activated dues))

-- a write to another
pub shown-set_other : (queues : List (List Due)) (q : ℕ) (dues : List Due) → q ≢ ACTIVE → shown (set queues q dues) ≡ set (shown queues) q dues
shown-set_other queues q dues other =
    let apart : ACTIVE ≢ q = (λ e. other (sym e)) in
    ap (λ xs. set (set queues q dues) ACTIVE (map activated xs)) (get_or-set_other queues q ACTIVE dues [] apart)
    ∙ set_comm queues q ACTIVE dues (map activated (get_or queues ACTIVE [])) other

-- a move to the active queue, which was empty
pub shown-moved : (queues : List (List Due)) (q : ℕ) → ACTIVE < length queues → q ≢ ACTIVE → get_or queues ACTIVE [] ≡ [] → shown (moved_to_active queues q) ≡ activated_queues (shown queues) q
shown-moved queues q long other empty =
    shown-set_other (set queues ACTIVE (get_or queues ACTIVE [] ++ get_or queues q [])) q [] other
    ∙ ap (λ qs. set qs q []) (shown-set_active queues (get_or queues ACTIVE [] ++ get_or queues q []) long)
    ∙ ap (λ xs. set (set (shown queues) ACTIVE (map activated (xs ++ get_or queues q []))) q []) empty
    ∙ ap (λ xs. set (set (shown queues) ACTIVE (map activated xs)) q []) (sym (shown_other queues q other))

pub length-joined_shown : (queues : List (List Due)) → ACTIVE < length queues → length (joined (shown queues)) ≡ length (joined queues)
length-joined_shown queues long =
    omega (arith, length-joined_set queues ACTIVE (map activated (get_or queues ACTIVE [])) long, length-map (get_or queues ACTIVE []) activated)

pub shown_empty : (queues : List (List Due)) → ACTIVE < length queues → get_or queues ACTIVE [] ≡ [] → get_or (shown queues) ACTIVE [] ≡ []
shown_empty queues long empty = shown_active queues long ∙ ap (map activated) empty

-- a move keeps the number of dues
pub length-moved : (queues : List (List Due)) (q : ℕ) → ACTIVE < length queues → q < length queues → q ≢ ACTIVE → length (joined (moved_to_active queues q)) ≡ length (joined queues)
length-moved queues q long within other =
    let dues = get_or queues ACTIVE [] ++ get_or queues q [] in
    let one = length-joined_set queues ACTIVE dues long in
    let longer : q < length (set queues ACTIVE dues) = omega (arith, length-set queues ACTIVE dues) in
    let two = length-joined_set (set queues ACTIVE dues) q [] longer in
    let same = ap length (get_or-set_other queues ACTIVE q dues [] other) in
    omega (arith, one, two, same, length-append (get_or queues ACTIVE []) (get_or queues q []))

-- and leaves the other queues
pub moved_other : (queues : List (List Due)) (q k : ℕ) → k ≢ ACTIVE → k ≢ q → get_or (moved_to_active queues q) k [] ≡ get_or queues k []
moved_other queues q k one two =
    get_or-set_other (set queues ACTIVE (get_or queues ACTIVE [] ++ get_or queues q [])) q k [] [] two
    ∙ get_or-set_other queues ACTIVE k (get_or queues ACTIVE [] ++ get_or queues q []) [] one
