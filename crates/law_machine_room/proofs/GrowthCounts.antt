-- What a deed may add to, how much of each there is in a state, and how much more a state has than another.
use Rattle.std.proofs.Common.{◌≡◌, ℕ, ◌+◌, ◌==◌, ◌≤◌, Bool, List, length, refl, sym, subst, ◌∙◌, arith}
use Rattle.wdf_model.specs.Tables.{entry, flag}
use Rattle.wdf_model.specs.parts.Tree.{references_in}
use Rattle.wdf_model.specs.parts.Queues.{held_in}
use Rattle.wdf_model.specs.State.{State}
use Rattle.wdf_model.specs.declared.deed.Deed.{Deed}
use Rattle.wdf_model.specs.declared.deed.Deed.TheVariants.{Create, MakeRequest, Arrive, CountArrival, Refer, Raise, TakeLock, Present, Receive, PassTick}

-- ---- what a deed may add to

pub data Gain : Type 0 where
  No_gain : Gain
  -- an object, and with it an arrived request
  Object_more : Gain
  Reference_more : Gain
  -- a request that is held from a queue
  Holding_more : Gain
  -- a level that a frame holds
  Level_more : Gain
  Lock_more : Gain
  -- an arrival of an agent
  Arrival_more : Gain
  Tick_more : Gain

abbrev pub number_of : Gain → ℕ
number_of No_gain = 0
number_of Object_more = 1
number_of Reference_more = 2
number_of Holding_more = 3
number_of Level_more = 4
number_of Lock_more = 5
number_of Arrival_more = 6
number_of Tick_more = 7

abbrev pub gain_of : Deed → Gain
gain_of (Create k class parent) = Object_more
gain_of (MakeRequest class parent) = Object_more
gain_of (Arrive device info p) = Object_more
gain_of (CountArrival agent) = Arrival_more
gain_of (Refer o) = Reference_more
gain_of (Raise f level) = Level_more
gain_of (TakeLock l f by_call) = Lock_more
gain_of (Present q r) = Holding_more
gain_of (Receive q r) = Holding_more
gain_of PassTick = Tick_more
gain_of _ = No_gain

abbrev pub is_gain : Gain → Deed → Bool
is_gain g d = number_of (gain_of d) == number_of g

-- how much a deed adds to each, at most
abbrev pub gains : Deed → Gain → ℕ
gains d g = flag (is_gain g d)

-- ---- how much there is

pub record Counts : Type 0 where
  pub nodes : ℕ
  pub requests : ℕ
  pub arrived : ℕ
  pub references : ℕ
  pub held : ℕ
  pub levels : ℕ
  pub locks : ℕ
  pub arrivals : List ℕ
  pub clock : ℕ
  pub number : ℕ

abbrev pub counts_of : {A : Type 0} → State A → Counts
counts_of S = record {
  nodes = length S.tree.nodes;
  requests = length S.requests.all;
  arrived = S.requests.arrived;
  references = references_in S.tree;
  held = held_in S.queues;
  levels = length S.cpus.levels;
  locks = length S.locks.held;
  arrivals = S.arrivals;
  clock = S.clock;
  number = S.number;
}

-- ---- how much more there is

-- of each at most so much more; objects stay, and each request keeps the id of an object
pub record Grows (more : Gain → ℕ) (a b : Counts) : Type 0 where
  pub same_number : b.number ≡ a.number
  pub fewer_nodes : b.nodes ≤ a.nodes + more Object_more
  pub nodes_stay : a.nodes ≤ b.nodes
  pub requests_within : a.requests ≤ a.nodes → b.requests ≤ b.nodes
  pub fewer_arrived : b.arrived ≤ a.arrived + more Object_more
  pub fewer_references : b.references ≤ a.references + more Reference_more
  pub fewer_held : b.held ≤ a.held + more Holding_more
  pub fewer_levels : b.levels ≤ a.levels + more Level_more
  pub fewer_locks : b.locks ≤ a.locks + more Lock_more
  pub fewer_arrivals : (agent : ℕ) → entry 0 b.arrivals agent ≤ entry 0 a.arrivals agent + more Arrival_more
  pub clock_slow : b.clock ≤ a.clock + more Tick_more

pub no_more : (more : Gain → ℕ) (a : Counts) → Grows more a a
no_more more a = record {
  same_number = refl;
  fewer_nodes = omega arith;
  nodes_stay = omega arith;
  requests_within = λ h. h;
  fewer_arrived = omega arith;
  fewer_references = omega arith;
  fewer_held = omega arith;
  fewer_levels = omega arith;
  fewer_locks = omega arith;
  fewer_arrivals = λ agent. omega arith;
  clock_slow = omega arith;
}

pub same_counts : (more : Gain → ℕ) (a b : Counts) → b ≡ a → Grows more a b
same_counts more a b e = subst (λ (c : Counts). Grows more a c) (sym e) (no_more more a)

-- more of one is more, and then more of another
pub grows_then : (more less : Gain → ℕ) (a b c : Counts) → Grows more a b → Grows less b c → Grows (λ g. more g + less g) a c
grows_then more less a b c p q = record {
  same_number = q.same_number ∙ p.same_number;
  fewer_nodes = omega arith;
  nodes_stay = omega arith;
  requests_within = λ h. q.requests_within (p.requests_within h);
  fewer_arrived = omega arith;
  fewer_references = omega arith;
  fewer_held = omega arith;
  fewer_levels = omega arith;
  fewer_locks = omega arith;
  fewer_arrivals = λ agent. let x = p.fewer_arrivals agent in let y = q.fewer_arrivals agent in omega arith;
  clock_slow = omega arith;
}

-- a deed that adds nothing
abbrev pub nothing : Gain → ℕ
nothing g = 0

pub grows_at_most : (more most : Gain → ℕ) (a b : Counts) → ((g : Gain) → more g ≤ most g) → Grows more a b → Grows most a b
grows_at_most more most a b few p = record {
  same_number = p.same_number;
  fewer_nodes = let e = few Object_more in omega arith;
  nodes_stay = p.nodes_stay;
  requests_within = p.requests_within;
  fewer_arrived = let e = few Object_more in omega arith;
  fewer_references = let e = few Reference_more in omega arith;
  fewer_held = let e = few Holding_more in omega arith;
  fewer_levels = let e = few Level_more in omega arith;
  fewer_locks = let e = few Lock_more in omega arith;
  fewer_arrivals = λ agent. let e = few Arrival_more in let x = p.fewer_arrivals agent in omega arith;
  clock_slow = let e = few Tick_more in omega arith;
}

pub grows_less : (more : Gain → ℕ) (a b : Counts) → Grows nothing a b → Grows more a b
grows_less more a b p = grows_at_most nothing more a b (λ g. omega arith) p

pub grows_on : (a b c : Counts) → Grows nothing a b → Grows nothing b c → Grows nothing a c
grows_on a b c p q = grows_then nothing nothing a b c p q

-- ---- some of them change

stays : (n m : ℕ) → n ≤ n + m
stays n m = omega arith

same_arrivals : (more : Gain → ℕ) (a : Counts) (agent : ℕ) → entry 0 a.arrivals agent ≤ entry 0 a.arrivals agent + more Arrival_more
same_arrivals more a agent = omega arith

pub objects_grow : (more : Gain → ℕ) (a : Counts) (nodes requests arrived references : ℕ) → nodes ≤ a.nodes + more Object_more → a.nodes ≤ nodes → (a.requests ≤ a.nodes → requests ≤ nodes)
    → arrived ≤ a.arrived + more Object_more → references ≤ a.references + more Reference_more
    → Grows more a (record a { nodes = nodes; requests = requests; arrived = arrived; references = references })
objects_grow more a nodes requests arrived references few long within r f = record {
  same_number = refl;
  fewer_nodes = few;
  nodes_stay = long;
  requests_within = within;
  fewer_arrived = r;
  fewer_references = f;
  fewer_held = stays a.held _;
  fewer_levels = stays a.levels _;
  fewer_locks = stays a.locks _;
  fewer_arrivals = same_arrivals more a;
  clock_slow = stays a.clock _;
}

pub objects_change : (more : Gain → ℕ) (a : Counts) (n m : ℕ) → n ≡ a.nodes → m ≤ a.references + more Reference_more → Grows more a (record a { nodes = n; references = m })
objects_change more a n m e h = objects_grow more a n a.requests a.arrived m (omega arith) (omega arith) (λ within. omega arith) (stays a.arrived _) h

pub requests_change : (more : Gain → ℕ) (a : Counts) (n : ℕ) → n ≡ a.requests → Grows more a (record a { requests = n })
requests_change more a n e = objects_grow more a a.nodes n a.arrived a.references (stays a.nodes _) (omega arith) (λ within. omega arith) (stays a.arrived _) (stays a.references _)

others_change : (more : Gain → ℕ) (a : Counts) (held levels locks clock : ℕ) (arrivals : List ℕ) → held ≤ a.held + more Holding_more → levels ≤ a.levels + more Level_more
    → locks ≤ a.locks + more Lock_more → clock ≤ a.clock + more Tick_more → ((agent : ℕ) → entry 0 arrivals agent ≤ entry 0 a.arrivals agent + more Arrival_more)
    → Grows more a (record a { held = held; levels = levels; locks = locks; clock = clock; arrivals = arrivals })
others_change more a held levels locks clock arrivals h l k c w = record {
  same_number = refl;
  fewer_nodes = stays a.nodes _;
  nodes_stay = omega arith;
  requests_within = λ within. within;
  fewer_arrived = stays a.arrived _;
  fewer_references = stays a.references _;
  fewer_held = h;
  fewer_levels = l;
  fewer_locks = k;
  fewer_arrivals = w;
  clock_slow = c;
}

pub held_changes : (more : Gain → ℕ) (a : Counts) (n : ℕ) → n ≤ a.held + more Holding_more → Grows more a (record a { held = n })
held_changes more a n h = others_change more a n a.levels a.locks a.clock a.arrivals h (stays a.levels _) (stays a.locks _) (stays a.clock _) (same_arrivals more a)

pub levels_change : (more : Gain → ℕ) (a : Counts) (n : ℕ) → n ≤ a.levels + more Level_more → Grows more a (record a { levels = n })
levels_change more a n h = others_change more a a.held n a.locks a.clock a.arrivals (stays a.held _) h (stays a.locks _) (stays a.clock _) (same_arrivals more a)

pub locks_change : (more : Gain → ℕ) (a : Counts) (n : ℕ) → n ≤ a.locks + more Lock_more → Grows more a (record a { locks = n })
locks_change more a n h = others_change more a a.held a.levels n a.clock a.arrivals (stays a.held _) (stays a.levels _) h (stays a.clock _) (same_arrivals more a)

pub clock_changes : (more : Gain → ℕ) (a : Counts) (n : ℕ) → n ≤ a.clock + more Tick_more → Grows more a (record a { clock = n })
clock_changes more a n h = others_change more a a.held a.levels a.locks n a.arrivals (stays a.held _) (stays a.levels _) (stays a.locks _) h (same_arrivals more a)

pub arrivals_change : (more : Gain → ℕ) (a : Counts) (new : List ℕ) → ((agent : ℕ) → entry 0 new agent ≤ entry 0 a.arrivals agent + more Arrival_more) → Grows more a (record a { arrivals = new })
arrivals_change more a new h = others_change more a a.held a.levels a.locks a.clock new (stays a.held _) (stays a.levels _) (stays a.locks _) (stays a.clock _) h
