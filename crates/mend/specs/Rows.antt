-- The starred files of RULES 9 that are mended, as one list of rows: a file with both lent buffers, and all that is to come back.
use Rattle.std.specs.Prelude.{ℕ, ◌+◌, ◌≡◌, List, [], ◌∷◌, ◌++◌, length, take, replicate}
use Rattle.mend.specs.Call.{mend_of, out_after, report_after}

-- what comes back: number and place, both lengths, and both buffers
pub record Result : Type 0 where
  pub number : ℕ
  pub place : ℕ
  pub bytes : ℕ
  pub report_bytes : ℕ
  pub out : List ℕ
  pub report : List ℕ

-- a file, a buffer for the mended file and one for the report, and the result
pub record Row : Type 0 where
  pub file : List ℕ
  pub room : List ℕ
  pub space : List ℕ
  pub result : Result

-- what the definitions of the call give
unfoldable pub run : List ℕ → List ℕ → List ℕ → Result
run file room space =
    let a = mend_of file (length room) (length space) in
    record {
      number = a.refusal.number;
      place = a.refusal.place;
      bytes = a.bytes;
      report_bytes = a.report_bytes;
      out = out_after file room (length space);
      report = report_after file (length room) space;
    }

-- the definitions give the row
abbrev pub Gives : Row → Type 0
Gives r = run r.file r.room r.space ≡ r.result

-- ---- rows

-- the bytes that the buffers hold before the call
abbrev junk : ℕ → List ℕ
junk n = replicate n 170

-- the file is mended to new with the report told, in buffers that are more bytes longer: those stay as they were
abbrev fills : List ℕ → List ℕ → List ℕ → ℕ → Row
fills file new told more = record {
  file = file;
  room = junk (length new + more);
  space = junk (length told + more);
  result = record {
    number = 0;
    place = 0;
    bytes = length new;
    report_bytes = length told;
    out = new ++ junk more;
    report = told ++ junk more;
  };
}

abbrev mends : List ℕ → List ℕ → List ℕ → Row
mends file new told = fills file new told 2

-- it is refused, and both buffers stay as they were
abbrev refuses : List ℕ → ℕ → ℕ → ℕ → Row
refuses file room space number = record {
  file = file;
  room = junk room;
  space = junk space;
  result = record { number = number; place = 0; bytes = 0; report_bytes = 0; out = junk room; report = junk space };
}

-- ---- files

-- the first 8 bytes: of version v, a rack of m tips and a count by its two bytes
abbrev head : ℕ → ℕ → ℕ → ℕ → List ℕ
head v m high low = 84 ∷ 73 ∷ 80 ∷ 0 ∷ v ∷ m ∷ high ∷ low ∷ []

-- a line of version 1 with tips below 8, one that has tip 63 too, and a line of version 2
abbrev plain : ℕ → List ℕ
plain s = replicate 7 0 ++ s ∷ []

abbrev with_tip63 : ℕ → List ℕ
with_tip63 s = 128 ∷ replicate 6 0 ++ s ∷ []

abbrev counted : ℕ → ℕ → List ℕ
counted s q = plain s ++ q ∷ []

-- eight lines of 255 placements
abbrev eight : List ℕ
eight = counted 1 255 ++ counted 1 255 ++ counted 1 255 ++ counted 1 255 ++ counted 1 255 ++ counted 1 255 ++ counted 1 255 ++ counted 1 255

-- the file of 6.3, the same in version 2, and the file of B80 with its report
abbrev six3 : List ℕ
six3 = head 1 3 0 2 ++ plain 1 ++ plain 6

abbrev b28 : List ℕ
b28 = head 2 3 0 2 ++ counted 1 1 ++ counted 6 1

abbrev file80 : List ℕ
file80 = head 1 3 0 2 ++ plain 8 ++ plain 3

-- the changes of the whole file: another count, and bytes that follow
abbrev recounted : List ℕ
recounted = 255 ∷ 255 ∷ 5 ∷ []

abbrev followed : List ℕ
followed = 255 ∷ 255 ∷ 6 ∷ []

abbrev told80 : List ℕ
told80 = 0 ∷ 0 ∷ 1 ∷ 0 ∷ 0 ∷ 2 ∷ recounted

-- ---- the list

abbrev pub B75_plain : Row
B75_plain = mends six3 six3 []

abbrev pub B75_counted : Row
B75_counted = mends b28 b28 []

abbrev pub B76_3 : Row
B76_3 = mends (head 1 3 0 3 ++ plain 1 ++ plain 6) six3 recounted

abbrev pub B76_65535 : Row
B76_65535 = mends (head 1 3 255 255 ++ plain 1 ++ plain 6) six3 recounted

abbrev pub B77_1 : Row
B77_1 = mends (head 1 3 0 1 ++ plain 1 ++ plain 6) (head 1 3 0 1 ++ plain 1) followed

abbrev pub B77_0 : Row
B77_0 = mends (head 1 3 0 0 ++ plain 1 ++ plain 6) (head 1 3 0 0) followed

abbrev pub B78 : Row
B78 = mends (head 2 3 2 1 ++ counted 1 1 ++ counted 6 1) b28 recounted

abbrev pub B79_more : Row
B79_more = mends (six3 ++ 0 ∷ []) six3 followed

abbrev pub B79_less : Row
B79_less = mends (take 23 six3) (head 1 3 0 1 ++ plain 1) (recounted ++ followed)

abbrev pub B79_counted : Row
B79_counted = mends (take 25 b28) (head 2 3 0 1 ++ counted 1 1) (recounted ++ followed)

abbrev pub B80 : Row
B80 = mends file80 (head 1 3 0 1 ++ plain 3) told80

abbrev pub B81_plain : Row
B81_plain = mends (head 1 3 0 2 ++ plain 3 ++ with_tip63 2) (head 1 3 0 2 ++ plain 3 ++ plain 2) (0 ∷ 1 ∷ 1 ∷ [])

abbrev pub B81_counted : Row
B81_counted = mends (head 2 3 0 2 ++ counted 3 2 ++ with_tip63 2 ++ 3 ∷ []) (head 2 3 0 2 ++ counted 3 2 ++ counted 2 3) (0 ∷ 1 ∷ 1 ∷ [])

abbrev pub B82_empty : Row
B82_empty = mends (head 2 3 0 2 ++ counted 0 0 ++ counted 2 2) (head 2 3 0 1 ++ counted 2 2) (0 ∷ 0 ∷ 2 ∷ recounted)

abbrev pub B82_outside : Row
B82_outside = mends (head 2 3 0 2 ++ counted 8 0 ++ counted 2 2) (head 2 3 0 1 ++ counted 2 2) told80

abbrev pub B83 : Row
B83 = mends (head 2 3 0 1 ++ counted 2 0) (head 2 3 0 1 ++ counted 2 1) (0 ∷ 0 ∷ 3 ∷ [])

abbrev pub B84_first : Row
B84_first = mends (head 2 3 0 11 ++ eight ++ counted 2 9 ++ counted 0 0 ++ counted 2 1) (head 2 3 0 8 ++ eight)
    (0 ∷ 8 ∷ 4 ∷ 0 ∷ 9 ∷ 4 ∷ 0 ∷ 10 ∷ 4 ∷ recounted)

abbrev pub B84_next : Row
B84_next = mends (head 2 3 0 11 ++ eight ++ counted 2 8 ++ counted 0 0 ++ counted 2 1) (head 2 3 0 9 ++ eight ++ counted 2 8)
    (0 ∷ 9 ∷ 2 ∷ 0 ∷ 10 ∷ 4 ∷ recounted)

abbrev pub B85 : Row
B85 = mends (head 2 3 0 10 ++ eight ++ counted 2 8 ++ counted 10 0) (head 2 3 0 9 ++ eight ++ counted 2 8)
    (0 ∷ 9 ∷ 1 ∷ 0 ∷ 9 ∷ 3 ∷ 0 ∷ 9 ∷ 4 ∷ recounted)

abbrev pub B86 : Row
B86 = mends (head 1 64 0 1 ++ with_tip63 0) (head 1 64 0 1 ++ with_tip63 0) []

abbrev pub B87_15 : Row
B87_15 = refuses file80 15 9 11

abbrev pub B87_8 : Row
B87_8 = refuses file80 16 8 11

abbrev pub B87_exact : Row
B87_exact = fills file80 (head 1 3 0 1 ++ plain 3) told80 0

abbrev pub B88_short : Row
B88_short = refuses (take 7 six3) 0 0 6

abbrev pub B88_none : Row
B88_none = refuses [] 0 0 6

abbrev pub B88_mark : Row
B88_mark = refuses (84 ∷ 73 ∷ 81 ∷ 0 ∷ 3 ∷ 3 ∷ 0 ∷ 2 ∷ []) 0 0 7

abbrev pub B88_version_3 : Row
B88_version_3 = refuses (head 3 0 0 2) 0 0 8

abbrev pub B88_version_0 : Row
B88_version_0 = refuses (head 0 3 0 2) 0 0 8

abbrev pub B88_rack_0 : Row
B88_rack_0 = refuses (head 1 0 0 2) 0 0 1

abbrev pub B88_rack_65 : Row
B88_rack_65 = refuses (head 1 65 0 2) 0 0 1

abbrev pub B89_2 : Row
B89_2 = mends (head 1 3 0 2) (head 1 3 0 0) recounted

abbrev pub B89_0 : Row
B89_0 = mends (head 1 3 0 0) (head 1 3 0 0) []

abbrev pub B89_3 : Row
B89_3 = mends (head 1 3 0 2 ++ 0 ∷ 0 ∷ 0 ∷ []) (head 1 3 0 0) (recounted ++ followed)

-- all of them, in the order of RULES 9
abbrev pub rows : List Row
rows =
    B75_plain ∷ B75_counted ∷ B76_3 ∷ B76_65535 ∷ B77_1 ∷ B77_0 ∷ B78 ∷ B79_more ∷ B79_less ∷ B79_counted ∷ B80 ∷ B81_plain ∷ B81_counted ∷
    B82_empty ∷ B82_outside ∷ B83 ∷ B84_first ∷ B84_next ∷ B85 ∷ B86 ∷ B87_15 ∷ B87_8 ∷ B87_exact ∷ B88_short ∷ B88_none ∷ B88_mark ∷
    B88_version_3 ∷ B88_version_0 ∷ B88_rack_0 ∷ B88_rack_65 ∷ B89_2 ∷ B89_0 ∷ B89_3 ∷ []
