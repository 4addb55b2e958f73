use Rattle.std.proofs.Common.{◌≡◌, ◌≤◌, ◌+◌, IsTrue, All, length, take, map}
use Rattle.page_engine.specs.Pages.{IsLawfulPage}
use Rattle.page_file.specs.SiteFiles.{files_limit, sizes, AreGoodFiles}
use Rattle.page_file.proofs.site_reader.read_pages.Given as goal

abbrev pub invariant-loop-entry : goal.invariant-loop-entry
invariant-loop-entry g l = record {
  same : IsTrue g.F.Files.tells → g.F.Files.files l.files ≡ g.F.Files.files l.fn.files;
  pages : IsTrue g.F.Files.tells → AreGoodFiles (g.F.Files.files l.fn.files) l.fn.total (take l.entry-index l.entries) l.pages.items;
  size : IsTrue g.F.Files.tells → l.total ≡ l.fn.total + sizes (g.F.Files.files l.fn.files) (take l.entry-index l.entries);
  within : l.total ≤ files_limit;
  lawful : All IsLawfulPage l.pages.items;
  addresses : map (λ page. page.address) l.pages.items ≡ map (λ entry. entry.address) (take l.entry-index l.entries);
  made : g.F.Files.made l.files ≡ g.F.Files.made l.fn.files + length l.pages.items;
  kept : g.F.Files.faults l.files ≡ g.F.Files.faults l.fn.files;
}
