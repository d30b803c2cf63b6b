-- What is known by name, and what the text of a unit mentions.
use Rattle.std.specs.{Prelude.{ℕ, Bool, List, [], ◌++◌, Option, Some, None, unwrap_or}, Option.{option_and_then}, FinMap.{FinMap, get}}
use Rattle.fb_parse.specs.Text.Order.{name_cmp}
use Rattle.fb_parse.specs.Tree.Tree.{DeclTree, TypeTree, block_type, adapter_type, subapplication_type, system_configuration, structure_type}
use Rattle.fb_parse.specs.{Tree.Mentions.{Mentioned, nothing_mentioned, all_mentions_of}, Body.{BodyTree, Whole, BrokenAt, body_of}}

-- the texts of units, by name
abbrev pub Sources : Type 0
Sources = FinMap name_cmp (List ℕ)

-- the text of a unit, empty if it is absent
abbrev pub text_or_empty : Sources → List ℕ → List ℕ
text_or_empty sources unit = unwrap_or (get sources unit) []

abbrev pub tree_in : BodyTree → Option DeclTree
tree_in (Whole decl) = Some decl
tree_in (BrokenAt span) = None

-- the declaration that a text spells, if it is not broken
abbrev pub tree_of : List ℕ → Option DeclTree
tree_of text = tree_in (body_of text)

-- the declaration of a unit that is present and not broken
abbrev pub tree_at : Sources → List ℕ → Option DeclTree
tree_at sources unit = option_and_then tree_of (get sources unit)

-- the type that is declared; none for a system or a structure
abbrev pub type_in : DeclTree → Option TypeTree
type_in (block_type d) = Some d
type_in (adapter_type d) = Some d
type_in (subapplication_type d) = Some d
type_in (system_configuration s) = None
type_in (structure_type s) = None

-- the type of a unit that is present and not broken, and no system or structure
abbrev pub declaration_at : Sources → List ℕ → Option TypeTree
declaration_at sources unit = option_and_then type_in (tree_at sources unit)

-- what a declaration mentions; nothing if there is none
abbrev pub mentions_of_tree : Option DeclTree → Mentioned
mentions_of_tree None = nothing_mentioned
mentions_of_tree (Some decl) = all_mentions_of decl

-- what is mentioned, or nothing if nothing was found
abbrev pub or_nothing : Option Mentioned → Mentioned
or_nothing None = nothing_mentioned
or_nothing (Some found) = found

abbrev pub parts_in : Option DeclTree → List (List ℕ)
parts_in tree = (mentions_of_tree tree).parts

abbrev pub values_in : Option DeclTree → List (List ℕ)
values_in tree = (mentions_of_tree tree).of_values

-- what a declaration mentions, of both sorts
abbrev pub mentions_in : Option DeclTree → List (List ℕ)
mentions_in tree = parts_in tree ++ values_in tree

-- what a unit mentions; nothing if it is absent or broken
abbrev pub mentioned_at : Sources → List ℕ → Mentioned
mentioned_at sources unit = mentions_of_tree (tree_at sources unit)

-- the types of its instances, plugs and sockets
abbrev pub parts_at : Sources → List ℕ → List (List ℕ)
parts_at sources unit = parts_in (tree_at sources unit)

-- the types of its variables or fields, except elementary ones
abbrev pub values_at : Sources → List ℕ → List (List ℕ)
values_at sources unit = values_in (tree_at sources unit)

-- all that a unit mentions
abbrev pub mentions_at : Sources → List ℕ → List (List ℕ)
mentions_at sources unit = mentions_in (tree_at sources unit)

abbrev pub is_structure_at : Sources → List ℕ → Bool
is_structure_at sources unit = (mentioned_at sources unit).is_structure
