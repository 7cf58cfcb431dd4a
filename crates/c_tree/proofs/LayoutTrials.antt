-- The layout tried on structs: struct 0 { char c; int i; char d; }, struct 1 { struct 0 s[2]; char e; int *p; }, and struct 2 without a definition.
use Rattle.std.proofs.Common.{◌≡◌, [], ◌∷◌, Some, None, refl}
use Rattle.c_tree.specs.declared.value.IntType.TheVariants.{Char, Int}
use Rattle.c_tree.specs.Tree.{integer, pointer, array, struct}
use Rattle.c_tree.specs.Layout.{Structs, flat, cells, first_cell, members_of, sizeof, alignment}

abbrev structs : Structs
structs =
    Some (integer Char ∷ integer Int ∷ integer Char ∷ [])
    ∷ Some (array (struct 0) 2 ∷ integer Char ∷ pointer (integer Int) ∷ [])
    ∷ None ∷ []

-- the cells of struct 0, each member one cell
of_three : flat structs (struct 0) ≡ integer Char ∷ integer Int ∷ integer Char ∷ []
of_three = refl

-- two times three cells and two more
of_nested : cells structs (struct 1) ≡ 8
of_nested = refl

-- the pointer is the last cell of struct 1
third_member : first_cell structs (members_of structs 1) 2 ≡ 7
third_member = refl

-- 1, 3 left free, 4, 1, 3 left free (6.7.2.1 paragraphs 12 to 15)
size_of_three : sizeof structs (struct 0) ≡ 12
size_of_three = refl

-- 24, 1, 3 left free, 4
size_of_nested : sizeof structs (struct 1) ≡ 32
size_of_nested = refl

alignment_of_nested : alignment structs (struct 1) ≡ 4
alignment_of_nested = refl

-- an array of char is not padded
size_of_chars : sizeof structs (array (integer Char) 5) ≡ 5
size_of_chars = refl

-- a struct without a definition has no cells
of_undefined : cells structs (struct 2) ≡ 0
of_undefined = refl
