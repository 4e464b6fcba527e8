-- The words, strings and signs of the examples, and how the names are spelled.
use Rattle.std.specs.Prelude.{true, false, List, [], ◌∷◌, codes}
use Rattle.c_tree.specs.declared.keyword.Keyword.TheVariants as words
use Rattle.c_tree.specs.declared.punctuator.Punctuator.TheVariants as marks
use Rattle.c_tree.specs.Symbol.{Symbol, Word, Reserved, Sign, IntLiteral, StringLiteral}
use Rattle.metal_grammar.specs.Words.{Spelling}

abbrev pub spelling : Spelling
spelling =
    codes "sm"
    ∷ codes "m"
    ∷ codes "start"
    ∷ codes "f"
    ∷ codes "stop"
    ∷ codes "state"
    ∷ codes "decl"
    ∷ codes "any_expr"
    ∷ codes "a"
    ∷ codes "b"
    ∷ codes "c"
    ∷ codes "d"
    ∷ codes "e"
    ∷ codes "g"
    ∷ codes "h"
    ∷ codes "i"
    ∷ codes "x"
    ∷ codes "any_scalar"
    ∷ codes "any_pointer"
    ∷ codes "v"
    ∷ codes "w"
    ∷ codes "mc_big"
    ∷ codes "true"
    ∷ codes "false"
    ∷ codes "end_of_path"
    ∷ codes "mc_is_local"
    ∷ codes "err"
    ∷ codes "\"%s\""
    ∷ codes "any_arguments"
    ∷ codes "any_fn_call"
    ∷ codes "any"
    ∷ codes "end"
    ∷ codes "2"
    ∷ codes "00"
    ∷ codes "\"a\""
    ∷ codes "\"%d\""
    ∷ codes "mc_in_function"
    ∷ codes "mc_name_is"
    ∷ codes "mc_identifier"
    ∷ codes "y"
    ∷ codes "mc_is_const"
    ∷ codes "L\"a\""
    ∷ codes "\"\\n\""
    ∷ codes "\"%%\""
    ∷ codes "free_checker"
    ∷ codes "kfree"
    ∷ codes "freed"
    ∷ codes "\"using %s after free!\""
    ∷ codes "\"double free of %s!\""
    ∷ codes "lock_checker"
    ∷ codes "l"
    ∷ codes "trylock"
    ∷ codes "locked"
    ∷ codes "lock"
    ∷ codes "unlock"
    ∷ codes "\"releasing unacquired lock %s!\""
    ∷ codes "\"double acquire of %s!\""
    ∷ codes "\"lock %s not released!\""
    ∷ codes "irq"
    ∷ codes "cli"
    ∷ codes "off"
    ∷ codes "sti"
    ∷ codes "\"interrupts left off\""
    ∷ codes "s"
    ∷ codes "L\"b\""
    ∷ codes "0"
    ∷ codes "1"
    ∷ codes "\"100%% of %\""
    ∷ codes "\"s, \\\"%s\\\" \\\\\""
    ∷ []

abbrev pub sm : Symbol
sm = Word 0

abbrev pub m : Symbol
m = Word 1

abbrev pub brace : Symbol
brace = Sign marks.OpenBrace

abbrev pub start : Symbol
start = Word 2

abbrev pub colon : Symbol
colon = Sign marks.Colon

abbrev pub f : Symbol
f = Word 3

abbrev pub paren : Symbol
paren = Sign marks.OpenParen

abbrev pub end_brace : Symbol
end_brace = Sign marks.CloseBrace

abbrev pub to : Symbol
to = Sign marks.LongArrow

abbrev pub stop : Symbol
stop = Word 4

abbrev pub semicolon : Symbol
semicolon = Sign marks.Semicolon

abbrev pub state : Symbol
state = Word 5

abbrev pub decl : Symbol
decl = Word 6

abbrev pub any_expr : Symbol
any_expr = Word 7

abbrev pub a : Symbol
a = Word 8

abbrev pub comma : Symbol
comma = Sign marks.Comma

abbrev pub b : Symbol
b = Word 9

abbrev pub c : Symbol
c = Word 10

abbrev pub d : Symbol
d = Word 11

abbrev pub e : Symbol
e = Word 12

abbrev pub g : Symbol
g = Word 13

abbrev pub h : Symbol
h = Word 14

abbrev pub i : Symbol
i = Word 15

abbrev pub x : Symbol
x = Word 16

abbrev pub any_scalar : Symbol
any_scalar = Word 17

abbrev pub any_pointer : Symbol
any_pointer = Word 18

abbrev pub v : Symbol
v = Word 19

abbrev pub w : Symbol
w = Word 20

abbrev pub end_paren : Symbol
end_paren = Sign marks.CloseParen

abbrev pub both : Symbol
both = Sign marks.AndAnd

abbrev pub dollar : Symbol
dollar = Sign marks.Dollar

abbrev pub mc_big : Symbol
mc_big = Word 21

abbrev pub dot : Symbol
dot = Sign marks.Dot

abbrev pub true_word : Symbol
true_word = Word 22

abbrev pub equals : Symbol
equals = Sign marks.Assign

abbrev pub false_word : Symbol
false_word = Word 23

abbrev pub end_of_path : Symbol
end_of_path = Word 24

abbrev pub mc_is_local : Symbol
mc_is_local = Word 25

abbrev pub err : Symbol
err = Word 26

abbrev pub text_1 : Symbol
text_1 = StringLiteral false 27

abbrev pub any_arguments : Symbol
any_arguments = Word 28

abbrev pub any_fn_call : Symbol
any_fn_call = Word 29

abbrev pub c_long : Symbol
c_long = Reserved words.Long

abbrev pub c_float : Symbol
c_float = Reserved words.Float

abbrev pub any : Symbol
any = Word 30

abbrev pub end : Symbol
end = Word 31

abbrev pub digits_2 : Symbol
digits_2 = IntLiteral (record { value = 2; decimal = true; unsigned = false; longs = 0 }) 32

abbrev pub digits_00 : Symbol
digits_00 = IntLiteral (record { value = 0; decimal = false; unsigned = false; longs = 0 }) 33

abbrev pub c_const : Symbol
c_const = Reserved words.Const

abbrev pub c_int : Symbol
c_int = Reserved words.Int

abbrev pub c_sizeof : Symbol
c_sizeof = Reserved words.Sizeof

abbrev pub c_enum : Symbol
c_enum = Reserved words.Enum

abbrev pub text_2 : Symbol
text_2 = StringLiteral false 34

abbrev pub bar : Symbol
bar = Sign marks.Bar

abbrev pub text_3 : Symbol
text_3 = StringLiteral false 35

abbrev pub mc_in_function : Symbol
mc_in_function = Word 36

abbrev pub mc_name_is : Symbol
mc_name_is = Word 37

abbrev pub either : Symbol
either = Sign marks.OrOr

abbrev pub mc_identifier : Symbol
mc_identifier = Word 38

abbrev pub y : Symbol
y = Word 39

abbrev pub mc_is_const : Symbol
mc_is_const = Word 40

abbrev pub text_4 : Symbol
text_4 = StringLiteral true 41

abbrev pub text_5 : Symbol
text_5 = StringLiteral false 42

abbrev pub text_6 : Symbol
text_6 = StringLiteral false 43

abbrev pub free_checker : Symbol
free_checker = Word 44

abbrev pub kfree : Symbol
kfree = Word 45

abbrev pub freed : Symbol
freed = Word 46

abbrev pub star : Symbol
star = Sign marks.Star

abbrev pub text_7 : Symbol
text_7 = StringLiteral false 47

abbrev pub text_8 : Symbol
text_8 = StringLiteral false 48

abbrev pub lock_checker : Symbol
lock_checker = Word 49

abbrev pub l : Symbol
l = Word 50

abbrev pub trylock : Symbol
trylock = Word 51

abbrev pub locked : Symbol
locked = Word 52

abbrev pub lock : Symbol
lock = Word 53

abbrev pub unlock : Symbol
unlock = Word 54

abbrev pub text_9 : Symbol
text_9 = StringLiteral false 55

abbrev pub text_10 : Symbol
text_10 = StringLiteral false 56

abbrev pub text_11 : Symbol
text_11 = StringLiteral false 57

abbrev pub irq : Symbol
irq = Word 58

abbrev pub cli : Symbol
cli = Word 59

abbrev pub off : Symbol
off = Word 60

abbrev pub sti : Symbol
sti = Word 61

abbrev pub text_12 : Symbol
text_12 = StringLiteral false 62

abbrev pub c_struct : Symbol
c_struct = Reserved words.Struct

abbrev pub s : Symbol
s = Word 63

abbrev pub bracket : Symbol
bracket = Sign marks.OpenBracket

abbrev pub end_bracket : Symbol
end_bracket = Sign marks.CloseBracket

abbrev pub negation : Symbol
negation = Sign marks.Exclamation

abbrev pub text_13 : Symbol
text_13 = StringLiteral true 64

abbrev pub digits_0 : Symbol
digits_0 = IntLiteral (record { value = 0; decimal = false; unsigned = false; longs = 0 }) 65

abbrev pub digits_1 : Symbol
digits_1 = IntLiteral (record { value = 1; decimal = true; unsigned = false; longs = 0 }) 66

abbrev pub text_14 : Symbol
text_14 = StringLiteral false 67

abbrev pub text_15 : Symbol
text_15 = StringLiteral false 68

-- `sm m { state decl any_pointer v, w; decl any_expr x;`
abbrev pub begun : List Symbol
begun = sm ∷ m ∷ brace ∷ state ∷ decl ∷ any_pointer ∷ v ∷ comma ∷ w ∷ semicolon ∷ decl ∷ any_expr ∷ x ∷ semicolon ∷ []
