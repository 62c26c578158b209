-- The parts of a placing order, the rules between them, and the order wanted.
use Rattle.std.specs.Prelude.{ℕ, Bool, false, not, ◌&&◌, ◌||◌, List, [], ◌∷◌, ltb, leb, eqb, length, get_or}
use Rattle.std.proofs.Math.Option.{Option}
use Rattle.order_rules.specs.declared.Part.{Part}
use Rattle.order_rules.specs.declared.Rule.{Rule}
use Rattle.order_rules.specs.Order.{Task}
use Rattle.order_rules.specs.Least.{least_order}

-- what stands for a part, and for a rule, past the end of a list
abbrev pub no_part : Part
no_part = record { first = 0; last = 0; fine = false; tall = false }

abbrev pub no_rule : Rule
no_rule = record { earlier = 0; later = 0 }

-- part number i
abbrev pub part_at : List Part → ℕ → Part
part_at parts i = get_or parts i no_part

-- the rule says that part a is to be placed earlier than part b
abbrev pub names : Rule → ℕ → ℕ → Bool
names r a b = eqb r.earlier a && eqb r.later b

-- some rule says that part a is to be placed earlier than part b
unfoldable pub ruled : List Rule → ℕ → ℕ → Bool
ruled [] a b = false
ruled (r ∷ rules) a b = names r a b || ruled rules a b

-- the part counts as fine: a tall part's fine flag is ignored
abbrev pub fine_pitch : Part → Bool
fine_pitch x = x.fine && not x.tall

-- part x is to be placed earlier than part y by their flags: fine pitch first, tall last
unfoldable pub by_flags : Part → Part → Bool
by_flags x y = (fine_pitch x && not (fine_pitch y)) || (not x.tall && y.tall)

-- part a is to be placed earlier than part b: a rule says so, or their flags do
unfoldable pub before : List Part → List Rule → ℕ → ℕ → Bool
before parts rules a b = ruled rules a b || by_flags (part_at parts a) (part_at parts b)

-- the window of a part among n: its first position is not after its last, and its last is below n
unfoldable pub window_ok : ℕ → Part → Bool
window_ok n x = leb x.first x.last && ltb x.last n

-- the rule names two different parts of n
unfoldable pub rule_ok : ℕ → Rule → Bool
rule_ok n r = ltb r.earlier n && ltb r.later n && not (eqb r.earlier r.later)

-- the parts as a task
abbrev pub task_of : List Part → List Rule → Task
task_of parts rules = record {
  size = length parts;
  first = λ i. (part_at parts i).first;
  last = λ i. (part_at parts i).last;
  before = before parts rules;
}

-- the placing order: the least that obeys windows, rules and flags
unfoldable pub placing_order : List Part → List Rule → Option (List ℕ)
placing_order parts rules = least_order (task_of parts rules)
