pub mod ProxyLists
