pub mod HostTests
