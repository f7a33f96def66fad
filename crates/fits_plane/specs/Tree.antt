-- A binary tree in a list: the root at place 1, the children of place j at 2j and 2j + 1 (own).
use Rattle.std.specs.Prelude.{◌^◌, ◌≡◌, ◌<◌, ◌≤◌, ◌⊎◌, ℕ, zero, suc, ◌+◌, ◌*◌, ◌/◌, ◌==◌, List, length, get_or, if◌then◌else◌}

-- what a tree is to its callers: its leaves, and how many joins were made so far
pub record TreeState (S : Type 0) : Type 0 where
  pub leaves : List S
  pub joins : ℕ

-- the node at j is the join of its two children
abbrev pub IsJoined : {S : Type 0} → S → (S → S → S) → List S → ℕ → Type 0
IsJoined unit join nodes j =
    get_or nodes j unit ≡ join (get_or nodes (2 * j) unit) (get_or nodes (2 * j + 1) unit)

-- a tree of n leaves, which stand from place n on
pub record IsTree {S : Type 0}
    (unit : S) (join : S → S → S) (fits : S → Type 0) (n : ℕ) (nodes : List S) : Type 0 where
  pub long : length nodes ≡ 2 * n
  pub fit : (k : ℕ) → k < 2 * n → fits (get_or nodes k unit)
  pub joined : (j : ℕ) → 1 ≤ j → j < n → IsJoined unit join nodes j

-- place j stands above place p: it is p, halved once or more often
abbrev pub IsAbove : ℕ → ℕ → Type 0
IsAbove j p = (k : ℕ) × (j ≡ p / 2 ^ (k + 1))

-- a tree of n leaves, but that the nodes above one place are yet to be joined: none, above the root
pub record IsTreeBut {S : Type 0}
    (unit : S) (join : S → S → S) (fits : S → Type 0) (n place : ℕ) (nodes : List S) : Type 0 where
  pub some : 1 ≤ place
  pub within : place < 2 * n
  pub long : length nodes ≡ 2 * n
  pub fit : (k : ℕ) → k < 2 * n → fits (get_or nodes k unit)
  pub joined : (j : ℕ) → 1 ≤ j → j < n → IsAbove j place ⊎ IsJoined unit join nodes j

-- how many nodes stand above a place of a tree of 2^d leaves, at most: none above the root
abbrev pub most_above : ℕ → ℕ → ℕ
most_above d place = if place == 1 then 0 else d

-- how many nodes stand left of the h nodes above leaf i: on each level as many as its place there
abbrev pub nodes_left : ℕ → ℕ → ℕ
nodes_left zero i = 0
nodes_left (suc h) i = i / 2 + nodes_left h (i / 2)

-- n is a power of two that is not below m, and no lesser power is
pub record IsLeastPower (m n : ℕ) : Type 0 where
  pub depth : ℕ
  pub power : n ≡ 2 ^ depth
  pub enough : m ≤ n
  pub least : (d : ℕ) → m ≤ 2 ^ d → depth ≤ d
